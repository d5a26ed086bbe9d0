-- Bytes stored one after another in a buffer.
-- Assumes nothing.
use Rattle.std.specs.Prelude.{ℕ, suc, ◌+◌, ◌≤◌, ◌≡◌, refl, List, [], ◌∷◌, ◌++◌, length, drop, set}
use Rattle.std.proofs.Common.{ap, sym, ◌∙◌, append-nil, add-zero, zero-add, arith, length-append, drop_of_length-le}
use Rattle.std.proofs.lemmas.List.Edits.{sets, sets-eq}
use Rattle.std.proofs.Math.Seq.{length-sets}

-- There is room for bytes from a place on.
pub record HasRoom (bytes : List ℕ) (at : ℕ) (buffer : List ℕ) : Type 0 where
  pub room : at + length bytes ≤ length buffer

-- The bytes stand in the buffer from a place on, the others as before, and the answer is the place after them.
pub record Puts (bytes : List ℕ) (at : ℕ) (before after : List ℕ) (next : ℕ) : Type 0 where
  pub place : next ≡ at + length bytes
  pub content : after ≡ sets before at bytes

pub puts_length : {bytes before after : List ℕ} {at next : ℕ} → Puts bytes at before after next → length after ≡ length before
puts_length {bytes} {before} {at = at} put = ap length put.content ∙ length-sets before at bytes

pub puts_none : (at : ℕ) (before : List ℕ) → Puts [] at before before at
puts_none at before = record { place = sym (add-zero at); content = refl }

sets_append : (first second before : List ℕ) (at : ℕ) → sets before at (first ++ second) ≡ sets (sets before at first) (at + length first) second
sets_append [] second before at = rw add-zero refl
sets_append (byte ∷ first) second before at =
    let same : suc at + length first ≡ at + suc (length first) = omega arith in
    rw (← same, sets_append first second (set before at byte) (suc at))

pub puts_both : {first second before between after : List ℕ} {at middle next : ℕ} → Puts first at before between middle → Puts second middle between after next
    → Puts (first ++ second) at before after next
puts_both {first} {second} {before} {at = at} a b = record {
  place = omega (arith, length-append first second, a.place, b.place);
  content = rw (sets_append first second before at, ← a.content, ← a.place) b.content;
}

pub room_first : {first buffer : List ℕ} {at : ℕ} (second : List ℕ) → HasRoom (first ++ second) at buffer → HasRoom first at buffer
room_first {first} second room = record { room = omega (arith, length-append first second, room.room) }

pub room_second : {first second before between : List ℕ} {at middle : ℕ} → HasRoom (first ++ second) at before → Puts first at before between middle
    → HasRoom second middle between
room_second {first} {second} room put = record { room = omega (arith, length-append first second, room.room, put.place, puts_length put) }

-- Bytes that fill the whole buffer are what it holds.
pub puts_whole : {bytes before after : List ℕ} {next : ℕ} → length before ≡ length bytes → Puts bytes 0 before after next → after ≡ bytes
puts_whole {bytes} {before} same put =
    let none : drop (length bytes) before ≡ [] = drop_of_length-le before {i = length bytes} (omega arith) in
    put.content ∙ sets-eq bytes before 0 (omega arith) ∙ rw (zero-add (length bytes), none, append-nil bytes) refl
