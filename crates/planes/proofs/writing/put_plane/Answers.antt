-- `put_plane` meets its contract.
use Rattle.std.proofs.Common.{ap, ◌∙◌, get_or}
use Rattle.planes.specs.Planes.{byte_of}
use Rattle.planes.specs.Planes.Laws.{le_byte}
use Rattle.planes.specs.Sides.{word_of}
use Rattle.planes.specs.Sides.Laws.{plane_more}
use Rattle.planes.proofs.writing.put_plane.Goals as goal

pub loop-i-preserved : goal.loop-i-preserved
loop-i-preserved c =
    let word = c.word_of-word.ensures ∙ ap (word_of c.args.part) c.at.ensures in
    let byte = ap (λ bytes. get_or bytes c.args.k 0) c.to_le_bytes.ensures ∙ le_byte c.args.k c.word_of-word.result c.requires.of_a_word in
    plane_more _ _ _ c.loop-i.i c.loop-i.invariant (byte ∙ ap (byte_of c.args.k) word) c.put_byte-next.ensures
