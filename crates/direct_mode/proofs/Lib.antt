pub use Rattle.direct_laws.proofs.CallLemmas
pub use Rattle.direct_laws.proofs.DeviceLemmas
pub use Rattle.direct_laws.proofs.EventLemmas
pub use Rattle.direct_laws.proofs.ServeLemmas
pub mod StoreCalls
pub mod ServingLemmas
pub mod PlacesLemmas
