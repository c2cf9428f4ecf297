-- The C states and answers, and the crates' own: what stands for what. A number that may be missing is a flag and a value, and an answer is
-- the refusal's number with two values; everything else goes over field by field.
use Rattle.std.specs.Prelude.{true, false, cond, ℕ, get_or, Option, Some, None}
use Rattle.refusal.specs.Rules.{Told}
use Rattle.flowcontrol.specs.declared.FlowControl.{FlowControl}
use Rattle.send_buf.specs.declared.SendBuf.{SendBuf}
use Rattle.recv_buf.specs.declared.RecvBuf.{RecvBuf}
use Rattle.stream_c.specs.declared.VkNumber.{VkNumber}
use Rattle.stream_c.specs.declared.VkAnswer.{VkAnswer}
use Rattle.stream_c.specs.declared.VkFlowControl.{VkFlowControl}
use Rattle.stream_c.specs.declared.send.VkSendBuf.{VkSendBuf}
use Rattle.stream_c.specs.declared.recv.VkRecvBuf.{VkRecvBuf}

-- a number that may be missing
unfoldable pub option_of : VkNumber → Option ℕ
option_of n = cond n.known (Some n.value) None

unfoldable pub vk_number : Option ℕ → VkNumber
vk_number None = record { known = false; value = 0 }
vk_number (Some n) = record { known = true; value = n }

-- what an answer says, with 0 for the values that it does not have
unfoldable pub padded : Told → VkAnswer
padded t = record { number = t.number; first = get_or t.values 0 0; second = get_or t.values 1 0 }

-- the window
unfoldable pub flow_of : VkFlowControl → FlowControl
flow_of f = record {
  consumed = f.consumed;
  max_data = f.max_data;
  window = f.window;
  max_window = f.max_window;
  last_update = option_of f.last_update;
}

unfoldable pub vk_flow : FlowControl → VkFlowControl
vk_flow f = record {
  consumed = f.consumed;
  max_data = f.max_data;
  window = f.window;
  max_window = f.max_window;
  last_update = vk_number f.last_update;
}

-- the send buffer
unfoldable pub send_of : VkSendBuf → SendBuf
send_of b = record {
  «data» = b.«data»;
  count = b.count;
  pos = b.pos;
  off = b.off;
  emit_off = b.emit_off;
  buffered_bytes = b.buffered_bytes;
  max_data = b.max_data;
  blocked_at = option_of b.blocked_at;
  fin_off = option_of b.fin_off;
  shutdown = b.shutdown;
  acked = b.acked;
  error = option_of b.error;
  arena_len = b.arena_len;
}

unfoldable pub vk_send : SendBuf → VkSendBuf
vk_send b = record {
  «data» = b.«data»;
  count = b.count;
  pos = b.pos;
  off = b.off;
  emit_off = b.emit_off;
  buffered_bytes = b.buffered_bytes;
  max_data = b.max_data;
  blocked_at = vk_number b.blocked_at;
  fin_off = vk_number b.fin_off;
  shutdown = b.shutdown;
  acked = b.acked;
  error = vk_number b.error;
  arena_len = b.arena_len;
}

-- the receive buffer
unfoldable pub recv_of : VkRecvBuf → RecvBuf
recv_of b = record {
  «data» = b.«data»;
  count = b.count;
  off = b.off;
  len = b.len;
  flow_control = flow_of b.flow_control;
  fin_off = option_of b.fin_off;
  error = option_of b.error;
  drain = b.drain;
  arena_len = b.arena_len;
}

unfoldable pub vk_recv : RecvBuf → VkRecvBuf
vk_recv b = record {
  «data» = b.«data»;
  count = b.count;
  off = b.off;
  len = b.len;
  flow_control = vk_flow b.flow_control;
  fin_off = vk_number b.fin_off;
  error = vk_number b.error;
  drain = b.drain;
  arena_len = b.arena_len;
}
