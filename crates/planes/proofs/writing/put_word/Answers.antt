-- `put_word` meets its contract.
use Rattle.std.proofs.Common.{ℕ, ◌+◌, ◌-◌, ◌≡◌, refl, sym, ◌∙◌, List, length, take_all, arith}
use Rattle.std.proofs.lemmas.Slice.{put_mid-paste}
use Rattle.std.proofs.lemmas.List.Edits.{sets-eq}
use borrow.Rule.Slice.PartMut.{put_mid}
use Rattle.buffer.specs.Stores.{HasRoom, Puts}
use Rattle.planes.specs.Planes.{planes}
use Rattle.planes.specs.Planes.Laws.{le_bytes}
use Rattle.planes.proofs.writing.put_word.Goals as goal

-- Bytes that were copied to the part of a file from a place to the next.
puts_part : {at next : ℕ} {file copied : List ℕ} (bytes : List ℕ) → HasRoom bytes at file → copied ≡ bytes → next ≡ at + length bytes
    → Puts bytes at file (put_mid at (next - at) file copied) next
puts_part {at} {next} {file} {copied} bytes room same place = record {
  place = place;
  content =
      put_mid-paste at (next - at) file copied bytes (length bytes) same (omega arith) refl
      ∙ rw (take_all (length bytes) bytes (omega arith)) (sym (sets-eq bytes file at room.room));
}

pub returns : goal.returns
unfolding planes
returns c = puts_part _ c.requires (c.copy_from_slice.ensures.after ∙ c.to_le_bytes.ensures ∙ le_bytes c.args.word) refl
