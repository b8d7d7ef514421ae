mod ByClap
mod Drawable
mod Numbers
mod Taken
