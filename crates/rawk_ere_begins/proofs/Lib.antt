mod LaneLemmas
mod FilterLemmas
mod SeekLemmas
