-- The five figures of a pair (i, t), said of a history: the slots that were counted, the latest first. They know nothing of the ledger.
use Rattle.std.specs.Prelude.{ℕ, ◌+◌, Bool, false, not, ◌&&◌, ◌||◌, cond, List, [], ◌∷◌, ltb}
use Rattle.laws.specs.Sets.{asks}

-- what the ledger is fed after a slot: n, the sets asked and the sets connected
pub record Feed : Type 0 where
  pub ports : ℕ
  pub asked : List ℕ
  pub connected : List ℕ

-- in a slot; rows and bits at or above n are ignored
abbrev pub inside : ℕ → ℕ → Feed → Bool
inside i t f = ltb i f.ports && ltb t f.ports

abbrev pub asked : ℕ → ℕ → Feed → Bool
asked i t f = inside i t f && asks f.asked i t

abbrev pub connected : ℕ → ℕ → Feed → Bool
connected i t f = inside i t f && asks f.connected i t

-- it waited in the previous slot: it was asked, and not connected
unfoldable pub waited : ℕ → ℕ → List Feed → Bool
waited i t [] = false
waited i t (f ∷ before) = asked i t f && not (connected i t f)

-- what a slot can be to a pair, given the slots before it
abbrev pub Event : Type 0
Event = Feed → List Feed → Bool

abbrev pub is_asked : ℕ → ℕ → Event
is_asked i t f before = asked i t f

-- connected while asked
abbrev pub is_connected : ℕ → ℕ → Event
is_connected i t f before = asked i t f && connected i t f

-- asked now and, in the previous counted slot, either not asked or else connected; in the first slot every one asked
unfoldable pub is_fresh : ℕ → ℕ → Event
is_fresh i t f [] = asked i t f
is_fresh i t f (previous ∷ before) = asked i t f && (not (asked i t previous) || connected i t previous)

-- it waited in the previous slot and is not asked now
abbrev pub is_withdrawn : ℕ → ℕ → Event
is_withdrawn i t f before = waited i t before && not (asked i t f)

-- in how many slots it happened
unfoldable pub how_often : Event → List Feed → ℕ
how_often happens [] = 0
how_often happens (f ∷ before) = how_often happens before + cond (happens f before) 1 0

-- 1 if the request is open after the last slot: it waits
abbrev pub is_open : ℕ → ℕ → List Feed → ℕ
is_open i t history = cond (waited i t history) 1 0
