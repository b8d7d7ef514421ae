mod Bounded
mod EqualityAt
mod InBounds
mod PairLaws
