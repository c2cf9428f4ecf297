-- The contracts of the exported calls of the window determine what C is handed: nothing else satisfies them. Assumes nothing.
use mathlib.Core.Path.{◌≡◌}
use mathlib.Core.Bool.{Bool}
use Prim.Native.Nat.{ℕ}
use Rattle.flowcontrol.specs.Rules.{created, consumed_more, due, next, committed, autotuned, at_least}
use Rattle.stream_c.specs.State.{flow_of, vk_flow}
use Rattle.stream_c.specs.Rules.{flow_out}
use Rattle.tables.proofs.Tables.{no_second}
use Rattle.stream_c.specs.declared.VkFlowControl.{VkFlowControl}
use Rattle.stream_c.specs.declared.window.VkFlowControlOut.{VkFlowControlOut}

pub vk-flow-control-new-one : (max_data : ℕ) (window : ℕ) (max_window : ℕ) (p q : VkFlowControlOut) → p ≡ flow_out (created max_data window max_window) → q ≡ flow_out (created max_data window max_window) → p ≡ q
vk-flow-control-new-one max_data window max_window = no_second

pub vk-flow-control-window-one : (flow : VkFlowControl) (p q : ℕ) → p ≡ (flow_of flow).window → q ≡ (flow_of flow).window → p ≡ q
vk-flow-control-window-one flow = no_second

pub vk-flow-control-max-data-one : (flow : VkFlowControl) (p q : ℕ) → p ≡ (flow_of flow).max_data → q ≡ (flow_of flow).max_data → p ≡ q
vk-flow-control-max-data-one flow = no_second

pub vk-flow-control-add-consumed-one : (flow : VkFlowControl) (consumed : ℕ) (p q : VkFlowControlOut) → p ≡ flow_out (consumed_more (flow_of flow) consumed) → q ≡ flow_out (consumed_more (flow_of flow) consumed) → p ≡ q
vk-flow-control-add-consumed-one flow consumed = no_second

pub vk-flow-control-should-update-max-data-one : (flow : VkFlowControl) (p q : Bool) → p ≡ due (flow_of flow) → q ≡ due (flow_of flow) → p ≡ q
vk-flow-control-should-update-max-data-one flow = no_second

pub vk-flow-control-max-data-next-one : (flow : VkFlowControl) (p q : ℕ) → p ≡ next (flow_of flow) → q ≡ next (flow_of flow) → p ≡ q
vk-flow-control-max-data-next-one flow = no_second

pub vk-flow-control-update-max-data-one : (flow : VkFlowControl) (now : ℕ) (p q : VkFlowControl) → p ≡ vk_flow (committed (flow_of flow) now) → q ≡ vk_flow (committed (flow_of flow) now) → p ≡ q
vk-flow-control-update-max-data-one flow now = no_second

pub vk-flow-control-autotune-window-one : (flow : VkFlowControl) (now : ℕ) (rtt : ℕ) (p q : VkFlowControl) → p ≡ vk_flow (autotuned (flow_of flow) now rtt) → q ≡ vk_flow (autotuned (flow_of flow) now rtt) → p ≡ q
vk-flow-control-autotune-window-one flow now rtt = no_second

pub vk-flow-control-ensure-window-lower-bound-one : (flow : VkFlowControl) (min_window : ℕ) (p q : VkFlowControlOut) → p ≡ flow_out (at_least (flow_of flow) min_window) → q ≡ flow_out (at_least (flow_of flow) min_window) → p ≡ q
vk-flow-control-ensure-window-lower-bound-one flow min_window = no_second
