-- `sieveflicker_numbers::put` meets its contract: the part of the memory that the numbers are copied to is set to them.
use Rattle.std.proofs.Common.{◌∙◌, refl, length, arith}
use Rattle.std.proofs.lemmas.Slice.{put_mid-paste}
use Rattle.sieveflicker_numbers.proofs.Memory.{pasted}
use Rattle.sieveflicker_numbers.proofs.put.Goals as goal

pub returns : goal.returns
returns g c =
    let numbers = c.args.numbers.now in
    put_mid-paste _ _ _ _ numbers (length numbers) c.copy_from_slice.ensures.after (omega arith) refl
    ∙ pasted c.args.out.now numbers c.args.place c.requires
