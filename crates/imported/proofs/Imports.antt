-- What is imported is a trace that replays, and its bodies continue each other.
use mathlib.Core.Path.{◌≡◌, refl, sym, ap, ◌∙◌}
use mathlib.Core.Bool.{true}
use mathlib.Core.List.{List}
use Prim.Native.Nat.{ℕ, suc, ◌<◌, ◌^◌}
use native.Mathlib.Omega.{arith}
use lib.ListN.{length}
use Rattle.laws.specs.Bytes.{Bytes}
use Rattle.lent.proofs.Writes.{wrote}
use Rattle.frames.specs.Part.{most_ports}
use Rattle.trace_parts.specs.Contents.{ports_of, count_of, entry_of}
use Rattle.trace_parts.specs.Body.{body_sound}
use Rattle.trace_parts.proofs.BodyLaws.{is_sound}
use Rattle.traces.specs.Trace.{body_at}
use Rattle.traces.proofs.TraceLaws.{trace}
use Rattle.replays.specs.Tables.{all_tables}
use Rattle.live_replays.proofs.Serving.{serves, numbers}
use Rattle.imports.specs.Import.{import_answer}
use Rattle.imported.specs.Trace.{imported, start_state, fields_after}
use Rattle.imported.specs.Imports.{Replays, InBodies}
use Rattle.imported.proofs.Told as told

module _ (n mode i j : ℕ) (s out : List ℕ) (bytes : Bytes s) (e : (import_answer most_ports n mode i j s out).number ≡ 0) where
  abbrev t : List ℕ
  t = imported most_ports n mode i j s out

  body_sound_lem : (b : ℕ) → b < count_of t → body_sound most_ports (ports_of t) (entry_of t b).slots (body_at t b) ≡ true
  body_sound_lem b l = is_sound ((trace most_ports t (told.is_trace n mode i j s out bytes e)).bodies b l)

  there : (b : ℕ) → b < count_of t → b < length (told.bs n mode i j s out bytes e)
  there b l = rw (told.bodies_are n mode i j s out bytes e) at l

  first_small : (b : ℕ) → b < count_of t → (entry_of t b).first < 2 ^ 32
  first_small b l = rw (told.first_is n mode i j s out bytes e b (there b l)) ((told.run n mode i j s out bytes e).told b (there b l)).small

  pub replays : Replays most_ports t
  replays = record {
    is_trace = told.is_trace n mode i j s out bytes e;
    served = λ b k l h. serves (ports_of t) (entry_of t b).slots (entry_of t b).first (body_at t b) (body_sound_lem b l) k h;
    numbers = λ b k l h. numbers (ports_of t) (entry_of t b).slots (entry_of t b).first (body_at t b) (body_sound_lem b l) (first_small b l) k (omega arith);
    tables = λ b tables l room. sym (wrote _ _ (all_tables most_ports (ports_of t) (entry_of t b).first (entry_of t b).slots (body_at t b)) tables (body_sound_lem b l) room _ refl).0;
  }

  pub in_bodies : InBodies n mode i j t
  in_bodies = record {
    ports = told.ports_are n mode i j s out bytes e;
    fields = λ b l.
        let l' = there b l in
        told.fields_are n mode i j s out bytes e b l' ∙ ((told.run n mode i j s out bytes e).told b l').fields
        ∙ ap (λ (q : ℕ). fields_after q mode (start_state n i j)) (sym (told.before_are n mode i j s out bytes e b (omega arith)));
    some = λ b l. let l' = there b l in rw (told.slots_are n mode i j s out bytes e b l') (told.body_fits_lem n mode i j s out bytes e b l').least;
    most = λ b l. let l' = there b l in rw (told.slots_are n mode i j s out bytes e b l') (told.body_fits_lem n mode i j s out bytes e b l').most;
    next = λ b l.
        let l' = there (suc b) l in
        let l'' = there b (omega arith) in
        rw (told.slots_are n mode i j s out bytes e b l'', told.first_is n mode i j s out bytes e b l'', told.first_is n mode i j s out bytes e (suc b) l')
        ((told.run n mode i j s out bytes e).apart b l');
  }
