-- Cases F, I and, diagonal first, E of document 01 as C calls, byte for byte: one computed statement over the definitions.
use mathlib.Core.Path.{◌≡◌, refl}
use mathlib.Core.List.{List, [], ◌∷◌, ◌++◌}
use Prim.Native.Nat.{ℕ, ◌-◌, ◌*◌}
use lib.Count.{ones, count_trailing_zeros}
use lib.ListN.{replicate}
use Rattle.laws.specs.Steps.{steps}
use Rattle.laws.specs.Bytes.{big_endian, number_from}
use Rattle.words.specs.Check.{crc_bit, crc_byte, crc_from, intact}
use Rattle.frames.specs.Frame.{form_number}
use Rattle.frames.specs.Config.{config_of}
use Rattle.frames.specs.Held.{held_frame}
use Rattle.frames.specs.Part.{most_ports, host_number}
use Rattle.ports.specs.Modes.{mode_of}
use Rattle.ports.specs.Tables.{within}
use Rattle.ports.specs.Due.{behind, wrong_limit, due_number, declined}
use Rattle.ports.specs.Owners.{among}
use Rattle.hearing.specs.Heard.{present, counted}
use Rattle.choices.specs.Choice.{choice, fewest}
use Rattle.choices.specs.Join.{join, join_live}
use Rattle.planned.specs.Planned.{planner, give, planned, start}
use Rattle.central.specs.Central.{winner, serve}
use Rattle.lcf.specs.Slot.{diagonal_first, serve_mode, matched, ended, slot_on_tables}
use Rattle.distributed.specs.Distributed.{askers, grants, offers, accepted, answer, round, one_more, distributed}
use Rattle.lcf.specs.Advance.{advance}
use Rattle.shelf.specs.Hosts.{said, hosts_of}
use Rattle.shelf.specs.Grants.{grant_of, granted}
use Rattle.shelf.specs.Step.{refusal, slot_on_hosts, stepped, output}
use Rattle.table_bytes.specs.State.{state_of, state_bytes}
use Rattle.bellacush.specs.Slot.{state_after, table_after, fits, run, slot_word, slot_state, slot_table, slot_output}
use Rattle.promised.specs.Call.{Handed, promise}

-- a call with a block of frames that each have ben 15 and qen 0x0102; 29 bytes of output and two of table for each set, all of them 9; the
-- link of host 1 is down
abbrev pub slot_of : ℕ → ℕ → List ℕ → Handed
slot_of slot mode block = record { lent = 9; slot = slot; mode = mode; block = block; link = 2; out = replicate 29 9; table = replicate (most_ports * 2) 9 }

-- F, with its multicast, is served at (3, 1) in slot 0x01020304, with a byte after the state's nine; all four ports are operator 1's, and the bits of
-- the owners at or above n are kept
abbrev pub case_f : Handed
case_f =
    slot_of 0x01020304 0
    ((1 ∷ 0 ∷ 9 ∷ 0 ∷ 8 ∷ 0 ∷ 15 ∷ 1 ∷ 2 ∷ 229 ∷ 242 ∷ [])
    ++ (1 ∷ 0 ∷ 3 ∷ 0 ∷ 0 ∷ 0 ∷ 15 ∷ 1 ∷ 2 ∷ 20 ∷ 145 ∷ [])
    ++ (1 ∷ 0 ∷ 0 ∷ 0 ∷ 0 ∷ 0 ∷ 15 ∷ 1 ∷ 2 ∷ 204 ∷ 19 ∷ [])
    ++ (1 ∷ 0 ∷ 0 ∷ 0 ∷ 10 ∷ 0 ∷ 15 ∷ 1 ∷ 2 ∷ 138 ∷ 189 ∷ []))

-- I is served at (2, 0) in the last slot, with limit 2
abbrev pub case_i : Handed
case_i =
    slot_of 0xFFFFFFFF 2
    ((1 ∷ 0 ∷ 3 ∷ 0 ∷ 0 ∷ 0 ∷ 15 ∷ 1 ∷ 2 ∷ 20 ∷ 145 ∷ [])
    ++ (1 ∷ 0 ∷ 7 ∷ 0 ∷ 0 ∷ 0 ∷ 15 ∷ 1 ∷ 2 ∷ 213 ∷ 87 ∷ [])
    ++ (1 ∷ 0 ∷ 4 ∷ 0 ∷ 0 ∷ 0 ∷ 15 ∷ 1 ∷ 2 ∷ 13 ∷ 213 ∷ []))

-- E, diagonal first, in which the pair (1, 1) has its turn
abbrev pub case_e : Handed
case_e =
    slot_of 7 17
    ((1 ∷ 0 ∷ 0 ∷ 0 ∷ 0 ∷ 0 ∷ 15 ∷ 1 ∷ 2 ∷ 204 ∷ 19 ∷ [])
    ++ (1 ∷ 0 ∷ 3 ∷ 0 ∷ 0 ∷ 0 ∷ 15 ∷ 1 ∷ 2 ∷ 20 ∷ 145 ∷ [])
    ++ (1 ∷ 0 ∷ 0 ∷ 0 ∷ 0 ∷ 0 ∷ 15 ∷ 1 ∷ 2 ∷ 204 ∷ 19 ∷ []))

pub worked : (promise most_ports (4 ∷ 3 ∷ 1 ∷ 1 ∷ 2 ∷ 3 ∷ 4 ∷ 0xAB ∷ 0x5F ∷ 77 ∷ []) case_f
    ≡ record {
      word = 0;
      state = 4 ∷ 0 ∷ 2 ∷ 1 ∷ 2 ∷ 3 ∷ 5 ∷ 0xAB ∷ 0x5F ∷ 77 ∷ [];
      out = 3 ∷ 0 ∷ 1 ∷ 0 ∷ 1 ∷ 216 ∷ 207 ∷ 3 ∷ 1 ∷ 2 ∷ 0 ∷ 0 ∷ 231 ∷ 10 ∷ 3 ∷ 2 ∷ 0 ∷ 0 ∷ 0 ∷ 18 ∷ 182 ∷ 3 ∷ 3 ∷ 1 ∷ 0 ∷ 10 ∷ 242 ∷ 120 ∷ 9 ∷ [];
      table = 0 ∷ 1 ∷ 0 ∷ 0 ∷ 0 ∷ 0 ∷ 0 ∷ 10 ∷ replicate (most_ports * 2 - 8) 0;
    })
    × (promise most_ports (3 ∷ 2 ∷ 0 ∷ 255 ∷ 255 ∷ 255 ∷ 255 ∷ 0 ∷ 0 ∷ []) case_i
    ≡ record {
      word = 512;
      state = 3 ∷ 0 ∷ 1 ∷ 0 ∷ 0 ∷ 0 ∷ 0 ∷ 0 ∷ 0 ∷ [];
      out = (3 ∷ 0 ∷ 1 ∷ 0 ∷ 2 ∷ 232 ∷ 172 ∷ 3 ∷ 1 ∷ 3 ∷ 0 ∷ 1 ∷ 192 ∷ 27 ∷ 3 ∷ 2 ∷ 1 ∷ 0 ∷ 4 ∷ 101 ∷ 2 ∷ []) ++ replicate 8 9;
      table = 0 ∷ 2 ∷ 0 ∷ 1 ∷ 0 ∷ 4 ∷ replicate (most_ports * 2 - 6) 0;
    })
    × (promise most_ports (3 ∷ 0 ∷ 0 ∷ 0 ∷ 0 ∷ 0 ∷ 7 ∷ 0 ∷ 0 ∷ []) case_e
    ≡ record {
      word = 0;
      state = 3 ∷ 1 ∷ 0 ∷ 0 ∷ 0 ∷ 0 ∷ 8 ∷ 0 ∷ 0 ∷ [];
      out = (3 ∷ 0 ∷ 0 ∷ 0 ∷ 0 ∷ 255 ∷ 222 ∷ 3 ∷ 1 ∷ 3 ∷ 0 ∷ 2 ∷ 240 ∷ 120 ∷ 3 ∷ 2 ∷ 0 ∷ 0 ∷ 0 ∷ 18 ∷ 182 ∷ []) ++ replicate 8 9;
      table = 0 ∷ 0 ∷ 0 ∷ 2 ∷ 0 ∷ 0 ∷ replicate (most_ports * 2 - 6) 0;
    })
unfolding ones count_trailing_zeros steps big_endian number_from crc_bit crc_byte crc_from intact form_number config_of held_frame host_number among present counted choice join join_live planner give planned fewest winner serve askers grants offers accepted answer round one_more distributed diagonal_first advance within start serve_mode matched behind wrong_limit due_number declined ended slot_on_tables said hosts_of grant_of granted refusal slot_on_hosts stepped output state_of state_bytes mode_of state_after table_after fits run slot_word slot_state slot_table slot_output
worked = (refl, refl, refl)
