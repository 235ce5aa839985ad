mod RankCounts
mod MomentLemmas
mod ResultLemmas
mod StepLemmas
mod FaultLemmas
