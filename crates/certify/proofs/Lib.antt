-- Laws that the proofs of the functions cite: common ops break nothing, a stride looked at, numbers of steps that are
-- enough, gates that lead within, an attempt, the loop, and the answer.
mod Steady
mod Turn
mod Enough
mod Leads
mod Attempt
mod Watching
mod Answer
