mod OrderLemmas
mod ExchangeLemmas
mod SiftLemmas
mod ChangeLemmas
mod EndLemmas
mod EmptyLemmas
mod SearchLemmas
