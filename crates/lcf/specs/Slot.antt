-- One slot on tables: rules 3 to 7.
use Rattle.std.specs.Prelude.{ℕ, cond, List, ◌==◌}
use Rattle.ports.specs.Due.{due_number, declined}
use Rattle.ports.specs.declared.state.State.{State}
use Rattle.ports.specs.declared.state.Mode.{Mode}
use Rattle.ports.specs.declared.state.Mode.TheVariants.{Central, Distributed, Diagonal}
use Rattle.ports.specs.Answer.{Stepped}
use Rattle.planned.specs.Planned.{start}
use Rattle.central.specs.Central.{central}
use Rattle.central.specs.Diagonal.{diagonal}
use Rattle.distributed.specs.Distributed.{distributed}
use Rattle.lcf.specs.Advance.{advance}
use Rattle.choices.specs.declared.work.Work.{Work}
use Rattle.choices.specs.declared.work.Run.{Run}

-- diagonal first (document 02, item 7): all diagonal positions are taken before others, and rule 5 serves the rest
unfoldable pub diagonal_first : State → Work → Work
diagonal_first st s = central st (diagonal st s st.ports) st.ports

-- rules 5 and 6, and diagonal-first
unfoldable pub serve_mode : State → Mode → Work → Run
serve_mode st Central s = record { work = central st s st.ports; rounds = 0 }
serve_mode st (Distributed limit) s = distributed st limit s
serve_mode st Diagonal s = record { work = diagonal_first st s; rounds = 0 }

-- what a mode joins before the central form serves the rest
abbrev pub opened : State → Mode → Work → Work
opened st Central s = s
opened st (Distributed limit) s = s
opened st Diagonal s = diagonal st s st.ports

unfoldable pub matched : State → Mode → List ℕ → List ℕ → Run
matched st mode req pre = serve_mode st mode (start st req pre)

-- a slot that was run: the next state, and what was matched
unfoldable pub ended : State → Run → Stepped
ended st r = record { state = advance st; answer = record { number = 0; rounds = r.rounds; sets = r.work.held } }

-- the call on tables
unfoldable pub slot_on_tables : ℕ → State → ℕ → Mode → List ℕ → List ℕ → Stepped
slot_on_tables m st slot mode req pre =
    cond (due_number m st slot mode == 0) (ended st (matched st mode req pre)) (declined m st (due_number m st slot mode))

-- the slot that is due, from its live requests on
unfoldable pub finish_due : ℕ → State → Mode → Work → Stepped
finish_due m st mode s =
    cond (due_number m st st.due mode == 0) (ended st (serve_mode st mode s)) (declined m st (due_number m st st.due mode))
