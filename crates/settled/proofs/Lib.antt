-- That the wrong answers are ruled out, for the leaves, the send buffer, the receive buffer and the answers in C's form; and that each refusal is
-- given exactly if docs/RULES.md, 2.1 says so.
pub mod Ruled
pub mod Leaves
pub mod Sender
pub mod Receiver
pub mod ExactTests
pub mod Exact
pub mod ExactKinds
pub mod ExactLeaves
pub mod ExactSender
pub mod ExactReceiver
