-- One packet more: what is known of the packets before it, by value.
use Rattle.import_steps.specs.declared.taking.Import.{Import}
use Rattle.std.specs.Prelude.{ℕ, Result, Ok, Err, ◌+◌, ◌-◌, ◌%◌, ◌^◌, Bool, cond, not, ◌&&◌, ◌||◌, List, length, ◌==◌, nat_le, nat_lt, slice_set}
use Rattle.laws.specs.Sets.{has, with}
use Rattle.laws.specs.Tests.{between}
use Rattle.refusals.specs.Numbers.{number}
use Rattle.refusals.specs.declared.Refusal.{Refusal}
use Rattle.ports.specs.declared.state.State.{State}
use Rattle.lcf.specs.Advance.{advance}
use Rattle.trace_parts.specs.Layout.{most_mode, most_slots, most_bodies}
use Rattle.captures.specs.Capture.{packet_len, record_len, packet_in}
use Rattle.captures.specs.declared.packet.Packet.{Packet}

-- what is known, with the first number other than 0
pub record Known : Type 0 where
  pub number : ℕ
  pub mode : ℕ
  pub state : State
  pub last : ℕ
  pub hosts : ℕ
  pub first : ℕ
  pub slots : ℕ
  pub bodies : ℕ
  pub resent : ℕ

-- as it stays where that number is given
unfoldable pub numbered : ℕ → Known → Known
numbered number p = record {
  number = number;
  mode = p.mode;
  state = p.state;
  last = p.last;
  hosts = p.hosts;
  first = p.first;
  slots = p.slots;
  bodies = p.bodies;
  resent = p.resent;
}

-- what the call's value says, for which none was given; and what its answer says, where p was known before
abbrev pub known : Import → Known
known p = record {
  number = 0;
  mode = p.mode;
  state = p.state;
  last = p.last;
  hosts = p.hosts;
  first = p.first;
  slots = p.slots;
  bodies = p.bodies;
  resent = p.resent;
}

abbrev pub known_after : Known → Result Import Refusal → Known
known_after p (Ok q) = known q
known_after p (Err why) = numbered (number why) p

-- the numbers 1, 2 and 5 of what the caller gives, where at most m ports are allowed
unfoldable pub start_number : ℕ → ℕ → ℕ → ℕ → ℕ → ℕ
start_number m n mode i j =
    cond (nat_lt n 1 || nat_lt m n) 1
    (cond (nat_le n i || nat_le n j) 2
    (cond (nat_le mode (most_mode n)) 0 5))

-- before the first packet; the state's due slot counts the slots imported
abbrev pub at_start : ℕ → ℕ → ℕ → ℕ → Known
at_start n mode i j = record {
  number = 0;
  mode = mode;
  state = record { ports = n; initiator = record { 0 = i }; target = record { 0 = j }; due = 0; owners = 0 };
  last = 0;
  hosts = 0;
  first = 0;
  slots = 0;
  bodies = 0;
  resent = 0;
}

unfoldable pub started : ℕ → ℕ → ℕ → ℕ → ℕ → Known
started m n mode i j = record {
  number = start_number m n mode i j;
  mode = mode;
  state = record { ports = n; initiator = record { 0 = i }; target = record { 0 = j }; due = 0; owners = 0 };
  last = 0;
  hosts = 0;
  first = 0;
  slots = 0;
  bodies = 0;
  resent = 0;
}

-- a body is open
abbrev pub begun : Known → Bool
begun p = nat_lt 0 p.slots

-- stale, as in number 3, against the packet before
unfoldable pub stale : ℕ → ℕ → Bool
stale last slot = between 1 (2 ^ 31) ((last + 2 ^ 32 - slot) % 2 ^ 32)

-- the packet is of the slot of the packet before; or of the slot after it, 0 after 4294967295, and the open body has room; any other
-- packet starts a new body
unfoldable pub same_slot : Known → Packet → Bool
same_slot p k = begun p && k.slot == p.last

unfoldable pub next_slot : Known → Packet → Bool
next_slot p k = begun p && (nat_lt p.slots (most_slots p.state.ports) && k.slot == (p.last + 1) % 2 ^ 32)

unfoldable pub new_body : Known → Packet → Bool
new_body p k = not (same_slot p k || next_slot p k)

-- a frame of the host is there for the slot
unfoldable pub is_resent : Known → Packet → Bool
is_resent p k = same_slot p k && has p.hosts k.host

-- none of the grounds of number 18 that a whole record can give
unfoldable pub fits : Known → Packet → Bool
fits p k =
    (k.captured == packet_len p.state.ports)
    && (nat_lt k.host p.state.ports
    && (not (begun p && stale p.last k.slot) && not (new_body p k && nat_le most_bodies p.bodies)))

-- ---- what is known with it

-- another frame of the slot: resent, and counted modulo 2 ^ 32, or the first of its host
unfoldable pub heard : Known → Packet → Known
heard p k = record {
  number = p.number;
  mode = p.mode;
  state = p.state;
  last = p.last;
  hosts = cond (has p.hosts k.host) p.hosts (with p.hosts k.host);
  first = p.first;
  slots = p.slots;
  bodies = p.bodies;
  resent = cond (has p.hosts k.host) ((p.resent + 1) % 2 ^ 32) p.resent;
}

-- the first frame of a slot, which moves the offsets on by rule 7
unfoldable pub slot_begun : Known → Packet → ℕ → ℕ → ℕ → Known
slot_begun p k first slots bodies = record {
  number = p.number;
  mode = p.mode;
  state = advance p.state;
  last = k.slot;
  hosts = with 0 k.host;
  first = first;
  slots = slots;
  bodies = bodies;
  resent = p.resent;
}

unfoldable pub took : Known → Packet → Known
took p k =
    cond (same_slot p k) (heard p k)
    (cond (next_slot p k) (slot_begun p k p.first (p.slots + 1) p.bodies) (slot_begun p k k.slot 1 (p.bodies + 1)))

-- ---- the call

-- a number that was given stays; then 1, 2 and 5, then 18
unfoldable pub step_number : ℕ → Known → ℕ → Packet → ℕ
step_number m p len k =
    let wrong = start_number m p.state.ports p.mode p.state.initiator.0 p.state.target.0 in
    cond (p.number == 0) (cond (wrong == 0) (cond (len == record_len p.state.ports && fits p k) 0 18) wrong) p.number

-- with the packet of the record r, where the file's numbers have their low byte first or not
unfoldable pub taken : ℕ → Bool → Known → List ℕ → Known
taken m low p r =
    cond (step_number m p (length r) (packet_in low r) == 0) (took p (packet_in low r)) (numbered (step_number m p (length r) (packet_in low r)) p)

-- the body that is open at p is complete at q, which is p with a record more
abbrev pub ends_body : Known → Known → Bool
ends_body p q = begun p && not (q.bodies == p.bodies)

-- x at place b - 1 of a list that has it
unfoldable pub noted : {A : Type 0} → ℕ → A → List A → List A
noted b x s = cond (between 1 (length s) b) (slice_set s (b - 1) x) s
