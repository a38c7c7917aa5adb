mod KeptExtras
mod KeptLines
mod StampLemmas
mod SameStamps
mod StretchLemmas
mod Pushing
mod Drafting
mod Tails
