mod MaximaLemmas
mod BoardLemmas
