-- Bytes that are read from a source, where it tells what is left.
use Rattle.std.specs.Prelude.{◌≡◌, ℕ, ◌≤◌, List, [], ◌++◌, length, drop, Option, Some, None, option_map, ⊤}
use Rattle.std.proofs.Common.{refl, sym, ap, ◌∙◌, append_assoc}

-- the bytes are the first of all, and what stands behind them is left
pub record IsFront (all bytes : List ℕ) (left : Option (List ℕ)) : Type 0 where
  pub behind : List ℕ
  pub whole : all ≡ bytes ++ behind
  pub rest : left ≡ Some behind

-- where told, the bytes were read first, and what stands behind them is left; a source that tells nothing goes on
-- telling nothing
abbrev pub HasRead : Option (List ℕ) → List ℕ → Option (List ℕ) → Type 0
HasRead None bytes left = left ≡ None
HasRead (Some all) bytes left = IsFront all bytes left

-- where told, at most so many bytes were read
pub record ReadsAtMost (most : ℕ) (before after : Option (List ℕ)) : Type 0 where
  pub bytes : List ℕ
  pub few : length bytes ≤ most
  pub read : HasRead before bytes after

-- where told, so many bytes were read, or all where there were fewer
unfoldable pub ReadsThrough : ℕ → Option (List ℕ) → Option (List ℕ) → Type 0
ReadsThrough most before after = after ≡ option_map (drop most) before

-- where told, nothing is left
abbrev pub IsAtEnd : Option (List ℕ) → Type 0
IsAtEnd None = ⊤
IsAtEnd (Some left) = left ≡ []

-- n bytes, at most so many, were read and put behind the others
pub record AddsFirst (n most : ℕ) (before : Option (List ℕ)) (old new : List ℕ) (after : Option (List ℕ)) : Type 0 where
  pub piece : List ℕ
  pub many : length piece ≡ n
  pub few : n ≤ most
  pub added : new ≡ old ++ piece
  pub read : HasRead before piece after

-- ---- one piece after another

-- nothing was read
pub HasRead-nil : (told : Option (List ℕ)) → HasRead told [] told
HasRead-nil None = refl
HasRead-nil (Some all) = record { behind = all; whole = refl; rest = refl }

untold : (between : Option (List ℕ)) (second : List ℕ) (left : Option (List ℕ)) → between ≡ None
    → HasRead between second left → left ≡ None
untold None second left is more = more
untold (Some all) second left is more = absurd cc

behind_front : (all first second : List ℕ) (between left : Option (List ℕ)) → IsFront all first between
    → HasRead between second left → IsFront all (first ++ second) left
behind_front all first second None left is more = absurd (let e = is.rest in cc)
behind_front all first second (Some others) left is more =
    let same : others ≡ is.behind = cc (is.rest) in
    record {
      behind = more.behind;
      whole = is.whole ∙ ap (λ (bs : List ℕ). first ++ bs) (sym same ∙ more.whole)
          ∙ sym (append_assoc first second more.behind);
      rest = more.rest;
    }

-- a piece that is read behind others
pub HasRead-append : (told : Option (List ℕ)) (first second : List ℕ) (between left : Option (List ℕ))
    → HasRead told first between → HasRead between second left → HasRead told (first ++ second) left
HasRead-append None first second between left is more = untold between second left is more
HasRead-append (Some all) first second between left is more = behind_front all first second between left is more
