-- `file_refusal` meets its contract.
use Rattle.std.proofs.Common.{refl, lt-ltb}
use Rattle.grounds.specs.Grounds.{first_of, first_ground, short_file_ground, file_form_grounds}
use Rattle.refusals.proofs.file_refusal.Goals as goal

pub returns-then-bytes-lt-FILE_HEAD : goal.returns-then-bytes-lt-FILE_HEAD
unfolding first_of first_ground short_file_ground file_form_grounds
returns-then-bytes-lt-FILE_HEAD c = rw (lt-ltb _ 12 c.if-bytes-lt-FILE_HEAD.true) refl
