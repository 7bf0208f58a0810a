-- Rule 1 on bytes: which hosts of a block are heard, and what their fields say.
use Rattle.std.specs.Prelude.{ℕ, Bool, List, eqb}
use Rattle.laws.specs.Sets.{gathered, tabled}
use Rattle.refusals.specs.Numbers.{Answer}
use Rattle.frames.specs.Config.{read_config}
use Rattle.frames.specs.Part.{frame_len, host_part}
use Rattle.frames.specs.declared.config.Config.{Config}
use Rattle.shelf.specs.declared.hosts.Hosts.{Hosts}

-- what host h says: its fields, and zeros if its frame is not correct
unfoldable pub said : ℕ → ℕ → List ℕ → ℕ → Answer Config
said m n block h = read_config (host_part m (frame_len n) n h block)

-- host h is heard; and one of its fields
abbrev pub is_heard : ℕ → ℕ → List ℕ → ℕ → Bool
is_heard m n block h = eqb (said m n block h).number 0

abbrev pub field_of : ℕ → ℕ → List ℕ → (Config → ℕ) → ℕ → ℕ
field_of m n block field h = field (said m n block h).fields

-- all n hosts, of at most m; their fields in tables of m rows
unfoldable pub hosts_of : ℕ → ℕ → List ℕ → Hosts
hosts_of m n block =
    let rows : (Config → ℕ) → List ℕ = λ field. tabled m (field_of m n block field) n in
    record { heard = gathered (is_heard m n block) n; req = rows (λ c. c.req); pre = rows (λ c. c.pre); ben = rows (λ c. c.ben) }
