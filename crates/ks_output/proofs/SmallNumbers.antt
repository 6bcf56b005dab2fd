-- A generation that is read fits 64 bits.
use Rattle.ks_output.proofs.Prelude.{ℕ, ◌<◌, ◌^◌, List, [], ◌∷◌, slice_index, arith, filter_map, without_terminator, Remark, remark, number, auto_generation, GenerationFits, rules, lines}
use Rattle.std.proofs.Common.{map as map_list}
use Rattle.ks_output.proofs.LegalNames.{Known, known}
use Rattle.ks_output.proofs.PlainTexts.{map-reverse}

fits_first : (bare : List ℕ) (r : Remark) (stated : List Remark) → Known bare r → slice_index (filter_map number stated) 0 < 2 ^ 64
    → slice_index (filter_map number (r ∷ stated)) 0 < 2 ^ 64
unfolding Known
fits_first bare r stated h later = grind arith

fits_last : (lines : List (List ℕ)) → slice_index (filter_map number (map_list remark lines)) 0 < 2 ^ 64
fits_last [] = omega arith
fits_last (line ∷ lines) = search (rules, (fits_first (without_terminator line)), known, (fits_last lines))

pub generation_fits : GenerationFits
unfolding auto_generation
generation_fits text = search (rules, map-reverse, fits_last)
