mod FinishedMarks
mod WorkedMarks
mod SplitNodes
mod Remarking
mod EndingLemmas
mod ListedLemmas
mod KnownBounds
