-- What C is handed by a call is good, for every kind of outcome, where what the crate's own call gave is: so the next call may have it.
-- The laws `Kept` of the crates below say that it is, for every creation and every call. Assumes nothing.
use Rattle.std.specs.Prelude.{⊤, ℕ, List}
use Rattle.flowcontrol.specs.State.{Good as GoodFlow}
use Rattle.send_buf.specs.State.{Good as GoodSendBuf}
use Rattle.recv_buf.specs.State.{Good as GoodRecvBuf}
use Rattle.stream_c.specs.State.{flow_of, send_of, recv_of}
use Rattle.stream_c.specs.Rules.{flow_out, send_by, recv_by}
use Rattle.stream_c.proofs.Laws.{flow_good, send_good, recv_good}
use Rattle.flowcontrol.specs.declared.FlowControl.{FlowControl}
use Rattle.recv_buf.specs.declared.RecvBuf.{RecvBuf}
use Rattle.refusal.specs.declared.Outcome.{Outcome}
use Rattle.send_buf.specs.declared.SendBuf.{SendBuf}

pub flow_out_good : (o : Outcome ⊤ FlowControl) → GoodFlow o.state → GoodFlow (flow_of (flow_out o).flow)
unfolding flow_out
flow_out_good o g = flow_good o.state g

module _ {T : Type 0} (values : T → List ℕ) where
  pub send_out_good : (o : Outcome T SendBuf) → GoodSendBuf o.state → GoodSendBuf (send_of (send_by values o).buf)
  unfolding send_by
  send_out_good o g = send_good o.state g

  pub recv_out_good : (o : Outcome T RecvBuf) → GoodRecvBuf o.state → GoodRecvBuf (recv_of (recv_by values o).buf)
  unfolding recv_by
  recv_out_good o g = recv_good o.state g
