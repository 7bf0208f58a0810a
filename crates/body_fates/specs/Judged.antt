-- The bodies of a file, judged one by one: the fate of each, and the entries of those kept, in tables of fixed length.
use Rattle.std.specs.Prelude.{ℕ, ◌+◌, Bool, ◌&&◌, ◌||◌, cond, List, ltb, leb, get_or, set, replicate}
use Rattle.trace_parts.specs.Layout.{most_bodies}
use Rattle.body_fates.specs.Fate.{is_kept, fate}
use Rattle.body_fates.specs.declared.body.Fate.{Fate}
use Rattle.body_fates.specs.declared.body.Fate.TheVariants.{Kept, Short}
use Rattle.body_fates.specs.declared.judging.Judged.{Judged}

unfoldable pub none_judged : Judged
none_judged =
    record { bodies = 0; fates = replicate most_bodies Kept; kept = 0; firsts = replicate most_bodies 0; slots = replicate most_bodies 0 }

unfoldable pub is_full : Judged → Bool
is_full j = leb most_bodies j.bodies || leb most_bodies j.kept

-- with one fate more
unfoldable pub noted : Fate → Judged → Judged
noted fate j =
    record { bodies = j.bodies + 1; fates = set j.fates j.bodies fate; kept = j.kept; firsts = j.firsts; slots = j.slots }

-- with one entry more
unfoldable pub entered : ℕ → ℕ → Judged → Judged
entered first slots j =
    record {
      bodies = j.bodies;
      fates = j.fates;
      kept = j.kept + 1;
      firsts = set j.firsts j.kept first;
      slots = set j.slots j.kept slots;
    }

-- one body more: its fate is noted, and its entry where it is kept
unfoldable pub judge : ℕ → ℕ → ℕ → ℕ → List ℕ → Judged → Judged
judge m n first slots body j =
    cond (is_full j) j
    (cond (is_kept (fate m n slots body))
    (entered first slots (noted (fate m n slots body) j))
    (noted (fate m n slots body) j))

-- the fate of body k; short where it was not judged
unfoldable pub fate_of : Judged → ℕ → Fate
fate_of j k = cond (ltb k j.bodies && ltb k most_bodies) (get_or j.fates k Kept) Short
