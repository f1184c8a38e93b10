-- The places and sizes of every record in a lent row, a file for each record, by the names of docs/BUFFERS.md. Definitions only.
pub mod Settings
pub mod Collider
pub mod Body
pub mod Proposal
pub mod Point
pub mod Manifold
pub mod Contact
pub mod Graph
pub mod Shares
pub mod Bits
pub mod Event
pub mod Change
pub mod Request
pub mod Prune
