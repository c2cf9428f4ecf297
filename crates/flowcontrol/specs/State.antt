-- What every window is that came from creation or a call.
use Rattle.std.specs.Prelude.{◌+◌, ◌≤◌}
use Rattle.refusal.specs.Rules.{M}
use Rattle.flowcontrol.specs.declared.FlowControl.{FlowControl}

pub record Good (f : FlowControl) : Type 0 where
  pub consumed_in : f.consumed ≤ M
  -- the window keeps within its maximum, which is a creation number
  pub window_in : f.window ≤ f.max_window
  pub maximum_in : f.max_window ≤ M
  -- a committed limit is consumed + window, so it may pass M, and never passes 2 M
  pub limit_in : f.max_data ≤ M + M
