-- What a sink got of a text.
use Rattle.std.specs.Prelude.{◌≡◌, ℕ, ◌<◌, List, ◌++◌, length, Option, Result, MatchResult}
use Rattle.std.proofs.Common.{ap, sym, ◌∙◌, append_assoc, length-append, arith}
use Rattle.view_outside.specs.Streams.{appended, appended-appended}

-- the text begins so, and goes on
pub record IsProperPrefix (first text : List ℕ) : Type 0 where
  pub rest : List ℕ
  pub more : 0 < length rest
  pub whole : text ≡ first ++ rest

-- a proper prefix of the text was appended, where the sink tells what it got
pub record WritesPart (before after : Option (List ℕ)) (text : List ℕ) : Type 0 where
  pub first : List ℕ
  pub prefix : IsProperPrefix first text
  pub appends : after ≡ appended before first

-- all of the text was appended, or a proper prefix where the writer failed
abbrev pub Wrote : {T E : Type 0} → Result T E → Option (List ℕ) → Option (List ℕ) → List ℕ → Type 0
Wrote result before after text =
    MatchResult result (λ _. after ≡ appended before text) (λ _. WritesPart before after text)

-- what is a proper prefix still is one where more follows
pub WritesPart-more : (before after : Option (List ℕ)) (text behind : List ℕ) → WritesPart before after text
    → WritesPart before after (text ++ behind)
WritesPart-more before after text behind part =
    let prefix = part.prefix in
    record {
      first = part.first;
      prefix = record {
        rest = prefix.rest ++ behind;
        more = omega (arith, prefix.more, length-append prefix.rest behind);
        whole = ap (λ (t : List ℕ). t ++ behind) prefix.whole ∙ append_assoc part.first prefix.rest behind;
      };
      appends = part.appends;
    }

-- a proper prefix behind what was written before
pub WritesPart-after : (before between after : Option (List ℕ)) (front text : List ℕ) → between ≡ appended before front
    → WritesPart between after text → WritesPart before after (front ++ text)
WritesPart-after before between after front text wrote part =
    let prefix = part.prefix in
    record {
      first = front ++ part.first;
      prefix = record {
        rest = prefix.rest;
        more = prefix.more;
        whole = ap (λ (t : List ℕ). front ++ t) prefix.whole ∙ sym (append_assoc front part.first prefix.rest);
      };
      appends = part.appends ∙ ap (λ (told : Option (List ℕ)). appended told part.first) wrote
          ∙ appended-appended before front part.first;
    }

-- a text behind what was written before
pub appended-after : (before between after : Option (List ℕ)) (front text : List ℕ) → between ≡ appended before front
    → after ≡ appended between text → after ≡ appended before (front ++ text)
appended-after before between after front text wrote writes =
    writes ∙ ap (λ (told : Option (List ℕ)). appended told text) wrote ∙ appended-appended before front text
