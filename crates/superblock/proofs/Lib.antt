mod PadsLemmas
mod ReadingLemmas
