-- The twelve figures of 01, by computation.
use mathlib.Core.Path.{◌≡◌, refl}
use mathlib.Core.List.{map}
use lib.Count.{ones, ones_in}
use Rattle.exact.specs.Choice.{minℤ, maxℤ}
use Rattle.exact.specs.Rounding.{floor_div, ceil_div}
use Rattle.words.specs.Words.{signed32, word_at}
use Rattle.words.specs.Fields.{misfit}
use Rattle.model.specs.Format.{section}
use Rattle.model.specs.Chains.{chain_from, walk, repeats, returns, names_twice}
use Rattle.model.specs.Dynamic.{dynamic_factor}
use Rattle.model.specs.Decode.{decode}
use Rattle.model.specs.Refusals.{fault1, fault2, fault3, fault4, fault5, fault6, fault7, fault8, fault9, fault11, job_tests, job_verdict, verdict}
use Rattle.model.specs.Line.{along, ordinate, pair, patch_byte, piece_load, uniform_part, best_pair, line_effect}
use Rattle.model.specs.Lanes.{lane_count, twentieths, transverse_at, second_lanes, lanes, deck_of, number_on, other_lanes, unit, lowest_in, highest_in}
use Rattle.model.specs.Traffic.{best_in_lane, lane_effect, set_sum, best_normal, best_overload, best_on, best_sum, effect_of, traffic_value}
use Rattle.model.specs.Figures.{figures, Figure}

-- every figure is as printed
pub figures_hold : map (λ (f : Figure). f.given) figures ≡ map (λ (f : Figure). f.printed) figures
unfolding signed32 word_at misfit section chain_from walk repeats returns names_twice dynamic_factor decode fault1 fault2 fault3 fault4 fault5 fault6 fault7 fault8 fault9 fault11 job_tests job_verdict verdict along ordinate pair patch_byte piece_load uniform_part best_pair line_effect lane_count second_lanes lanes deck_of number_on other_lanes unit lowest_in highest_in twentieths transverse_at best_in_lane lane_effect set_sum best_normal best_overload best_on best_sum effect_of traffic_value minℤ maxℤ floor_div ceil_div ones ones_in
figures_hold = refl
