-- `senmyo_sun::true_term` meets its contract: its table has the numbers of the printed rows, in their order.
use Rattle.std.proofs.lemmas.List.{get_or-map}
use Rattle.senmyo_sun.specs.Sun.{Row, solstice_row, later_rows, sun_rows, no_row}
use Rattle.senmyo_sun.proofs.true_term.Goals as goal

pub returns : goal.returns
unfolding solstice_row later_rows
returns c = get_or-map (λ (r : Row). r.term) sun_rows c.args.number no_row _ c.requires
