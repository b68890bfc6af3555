-- `senmyo_sun::start_of` meets its contract: its table has what the printed spans before each term come to.
use Rattle.std.proofs.Common.{ℕ, arith}
use Rattle.std.proofs.lemmas.List.FromFn.{get_or-map-range_with_len}
use Rattle.units.specs.Units.{byo}
use Rattle.senmyo_sun.specs.Sun.{solstice_row, later_rows}
use Rattle.senmyo_sun.specs.Room.{start_of}
use Rattle.senmyo_sun.proofs.start_of.Goals as goal

pub returns : goal.returns
unfolding solstice_row later_rows
returns c = get_or-map-range_with_len (λ (n : ℕ). byo (start_of n)) 0 25 c.args.number c.args.number _ (omega arith) (omega arith)
