pub mod EffectLemmas
pub mod FoldLemmas
pub mod RouteLaws
pub mod ValueLemmas
