mod FileSizes
mod FitSizes
mod LineSizes
mod QuotientSizes
mod Relabelled
mod Shrinks
mod Sizes
mod TreeSizes
