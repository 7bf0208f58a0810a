-- A frame that is placed in the open body: its block is then that of the slot's records with one more.
use mathlib.Core.Path.{◌≡◌, refl, sym, ap, ◌∙◌}
use mathlib.Core.Bool.{Bool, true, false}
use mathlib.Core.List.{List, [], ◌∷◌, ◌++◌}
use Prim.Native.Nat.{ℕ, ◌+◌, ◌*◌, ◌-◌, ◌<◌}
use native.Mathlib.Nat.{zero-mul}
use native.Mathlib.Omega.{arith}
use lib.ListN.{length, drop, replicate, length-replicate}
use lib.Seq.{take_at, drop-append-add}
use Rattle.laws.specs.Bytes.{big_endian}
use Rattle.laws.specs.Sets.{has}
use Rattle.frames.specs.Part.{frame_len}
use Rattle.trace_parts.specs.Layout.{block_len}
use Rattle.trace_parts.specs.Body.{block_at}
use Rattle.trace_writer.specs.Sealing.{field_bytes}
use Rattle.captures.specs.Capture.{record_len, packet_in, frame_of}
use Rattle.captures.specs.declared.packet.Packet.{Packet}
use Rattle.import_steps.specs.Taking.{Known, same_slot, next_slot, is_resent, heard, slot_begun, took}
use Rattle.import_steps.specs.Laying.{over, fields_now, last_block, opened, placed}
use Rattle.imports.specs.Cut.{Record, host_of, frame_for, block_of}
use Rattle.imports.proofs.Lists.{put_among}
use Rattle.imports.proofs.Blocks.{heard_in, frame_other, frame_first, block_resent, block_none, framed_none}
use Rattle.imports.proofs.Hosts.{Held, host_known, frame_size}

-- x over what follows p
over_behind_all : (p q x : List ℕ) (at : ℕ) → length p ≡ at → over at x (p ++ q) ≡ p ++ (x ++ drop (length x) q)
unfolding over
over_behind_all p q x at e = rw (take_at p q at e, ← e, drop-append-add p q (length x))

module _ (n : ℕ) (p : Known) (low : Bool) (r : Record) (ports : p.state.ports ≡ n) (host : (packet_in low r).host < n) (whole : length r ≡ record_len n) where
  abbrev k : Packet
  k = packet_in low r

  -- the record's frame put into the block of the records before it
  put_frame : (rs : List Record) → ((h : ℕ) → length (frame_for n rs h) ≡ frame_len n) → heard_in rs (host_of r) ≡ false → (at : ℕ) (a t : List ℕ) → length a ≡ at
      → over (at + k.host * frame_len n) (frame_of n r) (a ++ (block_of n rs ++ t)) ≡ a ++ (block_of n (rs ++ (r ∷ [])) ++ t)
  unfolding block_of
  put_frame rs framed new at a t e =
      let is = host_known low r in
      put_among (frame_for n rs) (frame_for n (rs ++ (r ∷ []))) (frame_len n) framed (frame_of n r) (frame_size n r whole) n k.host at a t e host
      (rw is (frame_first n rs r new)) (λ i d. frame_other n rs r i (λ q. d (sym q ∙ sym is)))

  -- a frame of the open slot
  pub placed_same : (rs : List Record) → Held n p.hosts rs → same_slot p k ≡ true → (a t : List ℕ) → length a ≡ last_block n p.slots
      → placed p k (frame_of n r) (a ++ (block_of n rs ++ t)) ≡ a ++ (block_of n (rs ++ (r ∷ [])) ++ t)
  unfolding placed is_resent opened took heard
  placed_same rs held s a t e = go (has p.hosts k.host) refl
    where
      told : {b : Bool} → has p.hosts k.host ≡ b → heard_in rs (host_of r) ≡ b
      told q = sym (held.heard (host_of r)) ∙ ap (has p.hosts) (sym (host_known low r)) ∙ q

      go : (b : Bool) → has p.hosts k.host ≡ b → placed p k (frame_of n r) (a ++ (block_of n rs ++ t)) ≡ a ++ (block_of n (rs ++ (r ∷ [])) ++ t)
      go true q = rw (s, q, block_resent n rs r (told q))
      go false q = rw (s, q, ports) (put_frame rs held.framed (told q) (last_block n p.slots) a t e)

  -- a block of zeros, and the frame in it
  first_frame : (at : ℕ) (a t : List ℕ) → length a ≡ at
      → over (at + k.host * frame_len n) (frame_of n r) (over at (replicate (block_len n) 0) (a ++ t)) ≡ a ++ (block_of n (r ∷ []) ++ drop (block_len n) t)
  unfolding heard_in
  first_frame at a t e =
      rw (over_behind_all a t (replicate (block_len n) 0) at e, length-replicate {A = ℕ} (block_len n) 0, block_none n) (put_frame [] (framed_none n) refl at a (drop (block_len n) t) e)

  -- the first frame of the next slot
  pub placed-next : same_slot p k ≡ false → next_slot p k ≡ true → (a t : List ℕ) → length a ≡ block_at n p.slots
      → placed p k (frame_of n r) (a ++ t) ≡ a ++ (block_of n (r ∷ []) ++ drop (block_len n) t)
  unfolding placed is_resent opened took slot_begun
  placed-next s x a t e =
      let at : p.slots + 1 - 1 ≡ p.slots = omega arith in
      rw (s, x, ports, at) (first_frame (block_at n p.slots) a t e)

  -- the first frame of a new body
  pub placed_new : same_slot p k ≡ false → next_slot p k ≡ false → (t : List ℕ)
      → placed p k (frame_of n r) t ≡ field_bytes (fields_now p) ++ (block_of n (r ∷ []) ++ drop (block_len n) (drop 3 t))
  unfolding placed is_resent opened took slot_begun big_endian
  placed_new s x t =
      rw (s, x, ports, over_behind_all [] t (field_bytes (fields_now p)) 0 refl) (first_frame (block_at n 0) (field_bytes (fields_now p)) (drop 3 t) (ap (λ (z : ℕ). 3 + z) (sym (zero-mul (block_len n)))))
