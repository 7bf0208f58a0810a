-- The sets asked in a slot: host heard and enabled, bit in req, below n and of the host's operator.
use Rattle.std.specs.Prelude.{ℕ, ◌*◌, ◌||◌, cond, List, eqb, ltb, length, replicate}
use Rattle.refusals.specs.Numbers.{Answer}
use Rattle.frames.specs.Part.{frame_len}
use Rattle.frames.specs.Frame.{differs}
use Rattle.ports.specs.Tables.{within}
use Rattle.hearing.specs.Heard.{counted}
use Rattle.shelf.specs.Hosts.{hosts_of}

-- the numbers 1 and 6, on shelves of at most m ports; 0 if neither applies
unfoldable pub block_number : ℕ → ℕ → List ℕ → ℕ
block_number m n block =
    cond (ltb n 1 || ltb m n) 1
    (cond (differs (length block) (n * frame_len n)) 6 0)

-- the call: empty sets where it declines
unfoldable pub sets_asked : ℕ → ℕ → ℕ → List ℕ → Answer (List ℕ)
sets_asked m n owners block =
    let hosts = hosts_of m n block in
    cond (eqb (block_number m n block) 0)
    (record { number = 0; fields = within n (counted n owners hosts.heard hosts.ben hosts.req) })
    (record { number = block_number m n block; fields = replicate m 0 })
