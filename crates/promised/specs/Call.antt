-- A call of `bellacush_slot` as it was seen: what was handed over, the word that came back, and all lent bytes after it.
use Rattle.std.specs.Prelude.{◌≡◌, Bool, List, ◌++◌, ℕ, ◌*◌, ◌/◌, ◌%◌, ◌^◌, ◌<◌, eqb, length, take, drop}
use Rattle.ports.specs.Modes.{mode_of}
use Rattle.demands.specs.SlotCall.{SlotCall}
use Rattle.table_bytes.specs.State.{state_len, state_of}
use Rattle.bellacush.specs.Slot.{slot_word, slot_state, slot_table, slot_output}

-- how many bytes of the state are lent, the slot number, the mode as a number, the block, the link word, and the bytes of the output and of the
-- table, all of which are lent
pub record Handed : Type 0 where
  pub lent : ℕ
  pub slot : ℕ
  pub mode : ℕ
  pub block : List ℕ
  pub link : ℕ
  pub out : List ℕ
  pub table : List ℕ

-- the word, and all bytes of the state, the output and the table
pub record Left : Type 0 where
  pub word : ℕ
  pub state : List ℕ
  pub out : List ℕ
  pub table : List ℕ

-- the number and the rounds of the word
abbrev pub number_in : Left → ℕ
number_in l = l.word % 256

abbrev pub rounds_in : Left → ℕ
rounds_in l = l.word / 256

pub record CCall : Type 0 where
  pub handed : Handed
  pub left : Left

abbrev pub number : CCall → ℕ
number d = number_in d.left

abbrev pub rounds : CCall → ℕ
rounds d = rounds_in d.left

-- what the contract promises on a state's bytes, the first of which are lent
abbrev pub promise : ℕ → List ℕ → Handed → Left
promise m state c =
    let part = take c.lent state in
    record {
      word = slot_word m part c.slot c.mode c.block c.out c.table;
      state = slot_state m part c.slot c.mode c.block c.out c.table ++ drop c.lent state;
      out = slot_output m part c.slot c.mode c.block c.link c.out c.table;
      table = slot_table m part c.slot c.mode c.block c.out c.table;
    }

-- the call kept its promise
abbrev pub Kept : ℕ → List ℕ → CCall → Type 0
Kept m state d = d.left ≡ promise m state d.handed

-- the same on bytes, whose owners are of sixteen bits
pub record OnBytes (m : ℕ) (state : List ℕ) (d : CCall) : Type 0 where
  pub kept : Kept m state d
  pub owners : (state_of state).owners < 2 ^ 16

abbrev pub next : List ℕ → CCall → List ℕ
next state d = d.left.state

-- served, and not declined
abbrev pub served : List ℕ → CCall → Bool
served state d = eqb (number d) 0

-- the slot call on frames that it comes to, on shelves of at most m ports
abbrev pub on_frames : ℕ → CCall → SlotCall
on_frames m d = let c = d.handed in record { slot = c.slot; mode = mode_of m c.mode; block = c.block; link = c.link; out = c.out }

-- nine bytes of the state are lent, and two of the table for each of m sets
pub record Lengths (m : ℕ) (state : List ℕ) (d : CCall) : Type 0 where
  pub nine : length (take d.handed.lent state) ≡ state_len
  pub two_each : length d.handed.table ≡ m * 2
