-- Bytes that are read from a source to its end, or to the most that are read.
use Rattle.std.proofs.Common.{◌≡◌, ℕ, ◌≤◌, List, [], length, drop, Option, Some, None, sym, ap, ◌∙◌, length-append, arith}
use Rattle.std.proofs.lemmas.List.{drop_at, drop_all}
use Rattle.line_reader.specs.Reads.{IsFront, HasRead, ReadsThrough, IsAtEnd}

ended : (most : ℕ) (all bytes : List ℕ) (left : Option (List ℕ)) → IsFront all bytes left → IsAtEnd left → length bytes ≤ most → left ≡ Some (drop most all)
ended most all bytes None is at_end few = absurd (let e = is.rest in cc)
ended most all bytes (Some others) is at_end few =
    let none_behind : is.behind ≡ [] = let e = is.rest in cc in
    let many : length all ≤ most = omega (arith, ap length is.whole, length-append bytes is.behind, ap length none_behind) in
    ap Some (at_end ∙ sym (drop_all most all many))

-- where nothing is left, all was read
pub through_end : (most : ℕ) (told : Option (List ℕ)) (bytes : List ℕ) (left : Option (List ℕ)) → HasRead told bytes left → IsAtEnd left → length bytes ≤ most → ReadsThrough most told left
unfolding ReadsThrough
through_end most None bytes left is at_end few = is
through_end most (Some all) bytes left is at_end few = ended most all bytes left is at_end few

-- where so many bytes were read, the others are left
pub through_most : (most : ℕ) (told : Option (List ℕ)) (bytes : List ℕ) (left : Option (List ℕ)) → HasRead told bytes left → length bytes ≡ most → ReadsThrough most told left
unfolding ReadsThrough
through_most most None bytes left is many = is
through_most most (Some all) bytes left is many = is.rest ∙ ap Some (sym (ap (drop most) is.whole ∙ drop_at bytes is.behind most many))
