-- Two C calls on a shelf of two operators, byte for byte: one computed statement over the definitions. Ports 0 and 1 are operator 0's, 2 and 3 operator
-- 1's. Operator 0's hosts send the same: host 0 asks for target 0, and host 1 for the other's ports. To operator 0 both slots are the same, but for the
-- rounds in the word, which are shared.
use mathlib.Core.Path.{◌≡◌, refl}
use mathlib.Core.List.{List, [], ◌∷◌, ◌++◌}
use Prim.Native.Nat.{ℕ, ◌-◌, ◌*◌}
use lib.Count.{ones, count_trailing_zeros}
use lib.ListN.{replicate}
use Rattle.laws.specs.Steps.{steps}
use Rattle.laws.specs.Bytes.{big_endian, number_from}
use Rattle.words.specs.Check.{crc_bit, crc_byte, crc_from, intact}
use Rattle.frames.specs.Frame.{form_number}
use Rattle.frames.specs.Config.{config_of}
use Rattle.frames.specs.Held.{held_frame}
use Rattle.frames.specs.Part.{most_ports, host_number}
use Rattle.ports.specs.Modes.{mode_of}
use Rattle.ports.specs.Owners.{among}
use Rattle.ports.specs.Tables.{within}
use Rattle.ports.specs.Due.{behind, wrong_limit, due_number, declined}
use Rattle.hearing.specs.Heard.{present, counted}
use Rattle.choices.specs.Choice.{choice, fewest}
use Rattle.choices.specs.Join.{join, join_live}
use Rattle.planned.specs.Planned.{planner, give, planned, start}
use Rattle.distributed.specs.Distributed.{askers, grants, offers, accepted, answer, round, one_more, distributed}
use Rattle.lcf.specs.Advance.{advance}
use Rattle.lcf.specs.Slot.{serve_mode, matched, ended, slot_on_tables}
use Rattle.shelf.specs.Hosts.{said, hosts_of}
use Rattle.shelf.specs.Grants.{grant_of, granted}
use Rattle.shelf.specs.Step.{refusal, slot_on_hosts, stepped, output}
use Rattle.table_bytes.specs.State.{state_of, state_bytes}
use Rattle.bellacush.specs.Slot.{state_after, table_after, fits, run, slot_word, slot_state, slot_table, slot_output}
use Rattle.promised.specs.Call.{Handed, promise}

-- slot 7 with limit 4, the frames of hosts 2 and 3 being these; the link of host 1 is down
abbrev pub slot_with : List ℕ → Handed
slot_with others =
    record {
      lent = 9;
      slot = 7;
      mode = 4;
      block = (1 ∷ 0 ∷ 1 ∷ 0 ∷ 0 ∷ 0 ∷ 15 ∷ 0 ∷ 0 ∷ 103 ∷ 1 ∷ []) ++ (1 ∷ 0 ∷ 12 ∷ 0 ∷ 0 ∷ 0 ∷ 15 ∷ 0 ∷ 0 ∷ 141 ∷ 11 ∷ []) ++ others;
      link = 2;
      out = replicate 29 9;
      table = replicate (most_ports * 2) 9;
    }

-- operator 1's hosts send nothing
abbrev pub silent : Handed
silent = slot_with (replicate 22 0)

-- they ask for each other's ports and for operator 0's, host 2 plans target 1, and both vote against hosts 0 and 1
abbrev pub busy : Handed
busy = slot_with ((1 ∷ 0 ∷ 13 ∷ 0 ∷ 2 ∷ 0 ∷ 12 ∷ 0 ∷ 0 ∷ 40 ∷ 185 ∷ []) ++ (1 ∷ 0 ∷ 12 ∷ 0 ∷ 0 ∷ 0 ∷ 12 ∷ 0 ∷ 0 ∷ 212 ∷ 91 ∷ []))

pub rounds_differ : (promise most_ports (4 ∷ 0 ∷ 0 ∷ 0 ∷ 0 ∷ 0 ∷ 7 ∷ 0 ∷ 12 ∷ []) silent
    ≡ record {
      word = 0;
      state = 4 ∷ 1 ∷ 0 ∷ 0 ∷ 0 ∷ 0 ∷ 8 ∷ 0 ∷ 12 ∷ [];
      out = 3 ∷ 0 ∷ 1 ∷ 0 ∷ 1 ∷ 216 ∷ 207 ∷ 3 ∷ 1 ∷ 2 ∷ 0 ∷ 0 ∷ 231 ∷ 10 ∷ 3 ∷ 2 ∷ 4 ∷ 0 ∷ 0 ∷ 206 ∷ 118 ∷ 3 ∷ 3 ∷ 4 ∷ 0 ∷ 0 ∷ 184 ∷ 194 ∷ 9 ∷ [];
      table = 0 ∷ 1 ∷ 0 ∷ 0 ∷ 0 ∷ 0 ∷ 0 ∷ 0 ∷ replicate (most_ports * 2 - 8) 0;
    })
    × (promise most_ports (4 ∷ 0 ∷ 0 ∷ 0 ∷ 0 ∷ 0 ∷ 7 ∷ 0 ∷ 12 ∷ []) busy
    ≡ record {
      word = 256;
      state = 4 ∷ 1 ∷ 0 ∷ 0 ∷ 0 ∷ 0 ∷ 8 ∷ 0 ∷ 12 ∷ [];
      out = 3 ∷ 0 ∷ 1 ∷ 0 ∷ 1 ∷ 216 ∷ 207 ∷ 3 ∷ 1 ∷ 2 ∷ 0 ∷ 0 ∷ 231 ∷ 10 ∷ 3 ∷ 2 ∷ 1 ∷ 0 ∷ 4 ∷ 101 ∷ 2 ∷ 3 ∷ 3 ∷ 1 ∷ 0 ∷ 8 ∷ 210 ∷ 58 ∷ 9 ∷ [];
      table = 0 ∷ 1 ∷ 0 ∷ 0 ∷ 0 ∷ 4 ∷ 0 ∷ 8 ∷ replicate (most_ports * 2 - 8) 0;
    })
unfolding ones count_trailing_zeros steps big_endian number_from crc_bit crc_byte crc_from intact form_number config_of held_frame host_number among present counted choice join join_live planner give planned fewest askers grants offers accepted answer round one_more distributed advance within start serve_mode matched behind wrong_limit due_number declined ended slot_on_tables said hosts_of grant_of granted refusal slot_on_hosts stepped output state_of state_bytes mode_of state_after table_after fits run slot_word slot_state slot_table slot_output
rounds_differ = (refl, refl)
