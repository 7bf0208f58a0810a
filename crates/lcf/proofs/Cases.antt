-- Cases A to I of document 01, one computed statement over the definitions, I at both limits, with round counts.
use Rattle.std.proofs.Common.{◌≡◌, ℕ, ◌-◌, List, [], ◌∷◌, ◌++◌, take, replicate, refl}
use lib.Count.{ones}
use Rattle.laws.specs.Steps.{steps}
use Rattle.frames.specs.Part.{most_ports}
use Rattle.ports.specs.Tables.{within}
use Rattle.ports.specs.Due.{behind, wrong_limit, due_number, declined}
use Rattle.ports.specs.declared.state.State.{State}
use Rattle.ports.specs.declared.state.Mode.{Mode}
use Rattle.ports.specs.declared.state.Mode.TheVariants.{Central, Distributed, Diagonal}
use Rattle.ports.specs.Owners.{among}
use Rattle.hearing.specs.Heard.{present, counted}
use Rattle.choices.specs.Choice.{choice, fewest}
use Rattle.choices.specs.Join.{join, join_live}
use Rattle.planned.specs.Planned.{planner, give, planned, start}
use Rattle.central.specs.Central.{winner, serve}
use Rattle.lcf.specs.Slot.{diagonal_first, serve_mode, matched, ended, slot_on_tables}
use Rattle.distributed.specs.Distributed.{askers, grants, offers, accepted, answer, round, one_more, distributed}
use Rattle.lcf.specs.Advance.{advance}

-- a table of which the first four rows are given
whole : List ℕ → List ℕ
whole rows = rows ++ replicate (most_ports - 4) 0

-- the number, the rounds and the sets of n initiators, at offsets (i, j)
shown : ℕ → ℕ → ℕ → Mode → List ℕ → List ℕ → List ℕ
shown n i j mode req pre =
    let st : State = record { ports = n; initiator = record { 0 = i }; target = record { 0 = j }; due = 7; owners = 0 } in
    let a = (slot_on_tables most_ports st 7 mode (whole req) (whole pre)).answer in
    a.number ∷ a.rounds ∷ take n a.sets

none : List ℕ
none = 0 ∷ 0 ∷ 0 ∷ 0 ∷ []

cases : List (List ℕ)
cases =
    shown 1 0 0 Central (1 ∷ 0 ∷ 0 ∷ 0 ∷ []) none
    ∷ shown 3 0 0 Central (3 ∷ 1 ∷ 6 ∷ 0 ∷ []) none
    ∷ shown 3 2 0 Central (3 ∷ 1 ∷ 6 ∷ 0 ∷ []) none
    ∷ shown 3 1 2 Central (5 ∷ 0 ∷ 6 ∷ 0 ∷ []) none
    ∷ shown 3 0 0 Central (0 ∷ 3 ∷ 0 ∷ 0 ∷ []) none
    ∷ shown 4 3 1 Central (9 ∷ 3 ∷ 0 ∷ 0 ∷ []) (8 ∷ 0 ∷ 0 ∷ 10 ∷ [])
    ∷ shown 2 0 0 Central (counted 2 0 3 (3 ∷ 2 ∷ []) (1 ∷ 1 ∷ 0 ∷ 0 ∷ [])) none
    ∷ shown 3 0 0 (Distributed 1) (3 ∷ 1 ∷ 6 ∷ 0 ∷ []) none
    ∷ shown 3 2 0 (Distributed 1) (3 ∷ 7 ∷ 4 ∷ 0 ∷ []) none
    ∷ shown 3 2 0 (Distributed 2) (3 ∷ 7 ∷ 4 ∷ 0 ∷ []) none
    ∷ []

worked : cases ≡
    (0 ∷ 0 ∷ 1 ∷ [])
    ∷ (0 ∷ 0 ∷ 1 ∷ 0 ∷ 2 ∷ [])
    ∷ (0 ∷ 0 ∷ 2 ∷ 1 ∷ 4 ∷ [])
    ∷ (0 ∷ 0 ∷ 1 ∷ 0 ∷ 4 ∷ [])
    ∷ (0 ∷ 0 ∷ 0 ∷ 1 ∷ 0 ∷ [])
    ∷ (0 ∷ 0 ∷ 1 ∷ 0 ∷ 0 ∷ 10 ∷ [])
    ∷ (0 ∷ 0 ∷ 1 ∷ 0 ∷ [])
    ∷ (0 ∷ 1 ∷ 1 ∷ 0 ∷ 4 ∷ [])
    ∷ (0 ∷ 1 ∷ 2 ∷ 0 ∷ 4 ∷ [])
    ∷ (0 ∷ 2 ∷ 2 ∷ 1 ∷ 4 ∷ [])
    ∷ []
unfolding cases none shown whole steps ones among present counted choice join join_live planner give planned fewest winner serve askers grants offers accepted answer round one_more distributed advance within start serve_mode matched behind wrong_limit due_number declined ended slot_on_tables
worked = refl

-- Diagonal first, B, C, E and F: in B initiator 2 holds target 2 now, in E the pair (1, 1) has its turn, and in C and F the central form serves the rest.
diagonals : List (List ℕ)
diagonals =
    shown 3 0 0 Diagonal (3 ∷ 1 ∷ 6 ∷ 0 ∷ []) none
    ∷ shown 3 2 0 Diagonal (3 ∷ 1 ∷ 6 ∷ 0 ∷ []) none
    ∷ shown 3 0 0 Diagonal (0 ∷ 3 ∷ 0 ∷ 0 ∷ []) none
    ∷ shown 4 3 1 Diagonal (9 ∷ 3 ∷ 0 ∷ 0 ∷ []) (8 ∷ 0 ∷ 0 ∷ 10 ∷ [])
    ∷ []

worked_first : diagonals ≡
    (0 ∷ 0 ∷ 1 ∷ 0 ∷ 4 ∷ [])
    ∷ (0 ∷ 0 ∷ 2 ∷ 1 ∷ 4 ∷ [])
    ∷ (0 ∷ 0 ∷ 0 ∷ 2 ∷ 0 ∷ [])
    ∷ (0 ∷ 0 ∷ 1 ∷ 0 ∷ 0 ∷ 10 ∷ [])
    ∷ []
unfolding diagonals none shown whole steps ones choice join join_live planner give planned fewest winner serve diagonal_first advance within start serve_mode matched behind wrong_limit due_number ended slot_on_tables
worked_first = refl
