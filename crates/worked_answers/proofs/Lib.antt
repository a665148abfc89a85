mod EventMeaning
mod FirstLines
mod ManyInstances
mod NeedlessZeros
mod SavedLines
