-- `put_store` meets its contract.
use Rattle.std.proofs.Common.{sym, ◌∙◌}
use Rattle.buffer.specs.Stores.{puts_both, puts_whole}
use Rattle.store_file.specs.Files.{file_of}
use Rattle.store_file.specs.Calls.Rooms.{file_places, file_bytes_lem, chain_bytes}
use Rattle.store_file.proofs.writing.put_store.Goals as goal

pub returns : goal.returns
unfolding file_of
returns c =
    let low = rw (c.store_places-count.ensures, c.low.ensures) at c.put_side-high.ensures in
    let high = rw (c.store_places-count.ensures, c.high.ensures) at c.put_side.ensures in
    puts_whole (c.requires.length ∙ file_places _ ∙ sym (chain_bytes _ _ _ _))
    (puts_both c.put_word-probability.ensures (puts_both c.put_word-correlation.ensures (puts_both c.put_word-low.ensures (puts_both low high))))
    ∙ sym (file_bytes_lem _ _ _ _)
