-- `are_sorted` meets its contract. Assumes nothing.
use Rattle.std.proofs.Common.{sym, ◌∙◌, rules}
use Rattle.std.proofs.lemmas.List.Sorted.{answers_always}
use Rattle.ranges.proofs.Checked.{is_apart, open_fails, sorted_is}
use Rattle.ranges.proofs.are_sorted.Goals as goal

pub returns-then-are_closed : goal.returns-then-are_closed
returns-then-are_closed c =
    sorted_is c.args.held.now _ (sym c.are_closed.ensures ∙ c.if-are_closed.true) (c.is_sorted_by.ensures.cases is_apart (answers_always _ _ _ (λ f a r g h. search rules)))

pub returns-else-are_closed : goal.returns-else-are_closed
returns-else-are_closed c =
    c.if-are_closed.false ∙ sym (open_fails 0 c.args.held.now (sym c.are_closed.ensures ∙ c.if-are_closed.false))
