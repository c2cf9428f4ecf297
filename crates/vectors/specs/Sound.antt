-- What holds of the five objects from the first line to the last: each that was created is good, so each call may be made on it.
use Rattle.std.specs.Option.{ForSome}
use Rattle.range_buf.specs.State.{Good as GoodChunk}
use Rattle.flowcontrol.specs.State.{Good as GoodFlow}
use Rattle.ranges.specs.State.{Good as GoodSet}
use Rattle.send_buf.specs.State.{Good as GoodSend}
use Rattle.recv_buf.specs.State.{Good as GoodRecv}
use Rattle.vectors.specs.declared.chunk.Chunk.{Chunk}
use Rattle.vectors.specs.declared.window.Window.{Window}
use Rattle.vectors.specs.declared.set.Set.{Set}
use Rattle.vectors.specs.declared.send.Sender.{Sender}
use Rattle.vectors.specs.declared.recv.Receiver.{Receiver}
use Rattle.vectors.specs.declared.objects.Objects.{Objects}

pub record Sound (o : Objects) : Type 0 where
  pub chunk_good : ForSome o.chunk (λ (c : Chunk). GoodChunk c.buf)
  pub flow_good : ForSome o.window (λ (w : Window). GoodFlow w.flow)
  pub set_good : ForSome o.set (λ (s : Set). GoodSet s.set)
  pub send_good : ForSome o.send (λ (s : Sender). GoodSend s.sending.buf)
  pub recv_good : ForSome o.recv (λ (r : Receiver). GoodRecv r.receiving.buf)
