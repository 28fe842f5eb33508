pub mod KeyLemmas
pub mod StartLemmas
pub mod TopLemmas
pub mod WorldLemmas
pub mod TaskLemmas
pub mod MirrorLemmas
pub mod MirrorStartLemmas
