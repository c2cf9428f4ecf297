-- A buffer and what it holds: the buffer of s holds s, and is good if s is. Assumes nothing.
use mathlib.Core.Path.{◌≡◌, sym, ap, subst}
use Rattle.range_buf.specs.Rules.{zero_buf}
use Rattle.ranges.proofs.Good.{ranges_of}
use Rattle.tables.proofs.Tables as tables
use Rattle.send_buf.specs.State.{Send, view_of, buf_of, GoodSend, Good}

pub view_of_lem : (s : Send) → view_of (buf_of s) ≡ s
unfolding buf_of
view_of_lem s = λ j. record {
  room = s.room;
  chunks = tables.view_of_lem zero_buf s.chunks j;
  pos = s.pos;
  off = s.off;
  emitted = s.emitted;
  buffered = s.buffered;
  limit = s.limit;
  blocked = s.blocked;
  fin = s.fin;
  shut = s.shut;
  acked = ranges_of 64 s.acked j;
  error = s.error;
}

pub good_of : (s : Send) → GoodSend s → Good (buf_of s)
good_of s g = record { whole = ap buf_of (sym (view_of_lem s)); facts = subst GoodSend (sym (view_of_lem s)) g }
