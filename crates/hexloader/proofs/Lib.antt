-- What the loops keep: bytes given, records judged, words placed; and the answer from them.
mod Giving
mod Judging
mod Places
mod Placing
mod Answer
