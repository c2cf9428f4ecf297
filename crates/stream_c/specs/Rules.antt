-- What a C caller is handed: the C state of the state that the call gave, beside the numbers of the call's answer.
use Rattle.std.specs.Prelude.{true, false, List, [], Result, Ok, Err, Option, Some, None, ⊤, ℕ, Bool}
use Rattle.refusal.specs.Rules.{told, told_by, no_values, count_values, bytes_values, sizes_values, success, refusal}
use Rattle.range_buf.specs.Rules.{zero_buf}
use Rattle.range_buf.specs.declared.RangeBuf.{RangeBuf}
use Rattle.ranges.specs.State.{zero_range}
use Rattle.stream_c.specs.declared.chunk.VkRangeBufOut.{VkRangeBufOut}
use Rattle.stream_c.specs.declared.chunk.VkSplitOut.{VkSplitOut}
use Rattle.stream_c.specs.declared.window.VkFlowControlOut.{VkFlowControlOut}
use Rattle.stream_c.specs.declared.set.VkRangeSetOut.{VkRangeSetOut}
use Rattle.stream_c.specs.declared.set.VkRangeOut.{VkRangeOut}
use Rattle.stream_c.specs.declared.send.VkSendBufOut.{VkSendBufOut}
use Rattle.stream_c.specs.declared.recv.VkRecvBufOut.{VkRecvBufOut}
use Rattle.stream_c.specs.State.{padded, vk_flow, vk_send, vk_recv}
use Rattle.flowcontrol.specs.declared.FlowControl.{FlowControl}
use Rattle.ranges.specs.declared.Range.{Range}
use Rattle.ranges.specs.declared.RangeSet.{RangeSet}
use Rattle.recv_buf.specs.declared.RecvBuf.{RecvBuf}
use Rattle.refusal.specs.declared.Outcome.{Outcome}
use Rattle.refusal.specs.declared.Refusal.{Refusal}
use Rattle.send_buf.specs.declared.SendBuf.{SendBuf}

-- ---- a chunk

unfoldable pub chunk_out : Outcome ⊤ RangeBuf → VkRangeBufOut
chunk_out o = record { buf = o.state; answer = padded (told o.answer) }

-- a split's right part is beside its left part; an empty chunk at 0 where it was refused
abbrev pub split_with : RangeBuf → Result RangeBuf Refusal → VkSplitOut
split_with left (Ok right) = record { buf = left; right = right; answer = padded (success []) }
split_with left (Err why) = record { buf = left; right = zero_buf; answer = padded (refusal why) }

unfoldable pub split_out : Outcome RangeBuf RangeBuf → VkSplitOut
split_out o = split_with o.state o.answer

-- ---- the window

unfoldable pub flow_out : Outcome ⊤ FlowControl → VkFlowControlOut
flow_out o = record { flow = vk_flow o.state; answer = padded (told o.answer) }

-- ---- the range set

unfoldable pub set_out : Outcome ⊤ RangeSet → VkRangeSetOut
set_out o = record { set = o.state; answer = padded (told o.answer) }

unfoldable pub range_out : Option Range → VkRangeOut
range_out None = record { range = zero_range; known = false }
range_out (Some r) = record { range = r; known = true }

-- ---- the send buffer: an answer with no numbers, a count, a count and an end mark, two sizes

unfoldable pub send_by : {T : Type 0} → (T → List ℕ) → Outcome T SendBuf → VkSendBufOut
send_by values o = record { buf = vk_send o.state; answer = padded (told_by values o.answer) }

abbrev pub send_out : Outcome ⊤ SendBuf → VkSendBufOut
send_out = send_by no_values

abbrev pub send_count : Outcome ℕ SendBuf → VkSendBufOut
send_count = send_by count_values

abbrev pub send_emit : Outcome (ℕ × Bool) SendBuf → VkSendBufOut
send_emit = send_by bytes_values

abbrev pub send_sizes : Outcome (ℕ × ℕ) SendBuf → VkSendBufOut
send_sizes = send_by sizes_values

-- ---- the receive buffer: an answer with no numbers, a count, a count and an end mark, two sizes

unfoldable pub recv_by : {T : Type 0} → (T → List ℕ) → Outcome T RecvBuf → VkRecvBufOut
recv_by values o = record { buf = vk_recv o.state; answer = padded (told_by values o.answer) }

abbrev pub recv_out : Outcome ⊤ RecvBuf → VkRecvBufOut
recv_out = recv_by no_values

abbrev pub recv_count : Outcome ℕ RecvBuf → VkRecvBufOut
recv_count = recv_by count_values

abbrev pub recv_emit : Outcome (ℕ × Bool) RecvBuf → VkRecvBufOut
recv_emit = recv_by bytes_values

abbrev pub recv_sizes : Outcome (ℕ × ℕ) RecvBuf → VkRecvBufOut
recv_sizes = recv_by sizes_values
