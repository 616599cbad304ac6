-- What a batch sent to a sink, and what it still holds.
use Rattle.std.specs.Prelude.{◌≡◌, ℕ, List, [], ◌++◌, Option, Result, Ok, Err, MatchResult}
use Rattle.std.proofs.Common.{append-nil, ap, refl, subst, sym, ◌∙◌, append_assoc}
use Rattle.view_outside.specs.Streams.{appended, appended-nil}
use Rattle.view_outside.specs.Written.{WritesPart, Wrote, WritesPart-more, WritesPart-after, appended-after}

-- a batch that held these bytes was given a text: what it sent to the sink and what it holds now are both together
pub record Sent (before after : Option (List ℕ)) (held holds text : List ℕ) : Type 0 where
  pub first : List ℕ
  pub wrote : after ≡ appended before first
  pub whole : first ++ holds ≡ held ++ text

-- the batch sent what it doesn't hold, or the sink failed in what it held and in the text
abbrev pub Sends : {T E : Type 0} → Result T E → Option (List ℕ) → Option (List ℕ) → List ℕ → List ℕ → List ℕ → Type 0
Sends result before after held holds text =
    MatchResult result (λ _. Sent before after held holds text) (λ _. WritesPart before after (held ++ text))

-- nothing was given
pub Sent-none : (before : Option (List ℕ)) (held : List ℕ) → Sent before before held held []
Sent-none before held = record { first = []; wrote = sym (appended-nil before); whole = sym (append-nil held) }

-- the text is held behind what was held before
pub Sent-kept : (before : Option (List ℕ)) (held text : List ℕ) → Sent before before held (held ++ text) text
Sent-kept before held text = record { first = []; wrote = sym (appended-nil before); whole = refl }

-- all that was held was sent, and the text is held
pub Sent-all : (before after : Option (List ℕ)) (held text : List ℕ) → after ≡ appended before held
    → Sent before after held text text
Sent-all before after held text wrote = record { first = held; wrote = wrote; whole = refl }

-- two texts one after the other
pub Sent-then : (before between after : Option (List ℕ)) (held holds left front text : List ℕ)
    → Sent before between held holds front → Sent between after holds left text
    → Sent before after held left (front ++ text)
Sent-then before between after held holds left front text one other = record {
  first = one.first ++ other.first;
  wrote = appended-after before between after one.first other.first one.wrote other.wrote;
  whole = append_assoc one.first other.first left ∙ ap (λ (t : List ℕ). one.first ++ t) other.whole
      ∙ sym (append_assoc one.first holds text) ∙ ap (λ (t : List ℕ). t ++ text) one.whole ∙ append_assoc held front text;
}

-- the sink failed in the second of two texts
pub Sent-part : (before between after : Option (List ℕ)) (held holds front text : List ℕ)
    → Sent before between held holds front → WritesPart between after (holds ++ text)
    → WritesPart before after (held ++ (front ++ text))
Sent-part before between after held holds front text sent part =
    let whole : sent.first ++ (holds ++ text) ≡ held ++ (front ++ text) = sym (append_assoc sent.first holds text)
    ∙ ap (λ (t : List ℕ). t ++ text) sent.whole ∙ append_assoc held front text in
    subst (WritesPart before after) whole
    (WritesPart-after before between after sent.first (holds ++ text) sent.wrote part)

-- the sink failed in a text that more follows
pub Sends-part : (before after : Option (List ℕ)) (held text behind : List ℕ) → WritesPart before after (held ++ text)
    → WritesPart before after (held ++ (text ++ behind))
Sends-part before after held text behind part =
    subst (WritesPart before after) (append_assoc held text behind)
    (WritesPart-more before after (held ++ text) behind part)

-- what is still held is sent last
pub Sent-wrote : {T E : Type 0} (result : Result T E) (before between after : Option (List ℕ)) (holds text : List ℕ)
    → Sent before between [] holds text → Wrote result between after holds → Wrote result before after text
Sent-wrote (Ok x) before between after holds text sent wrote =
    subst (λ (t : List ℕ). after ≡ appended before t) sent.whole
    (appended-after before between after sent.first holds sent.wrote wrote)
Sent-wrote (Err e) before between after holds text sent part =
    subst (WritesPart before after) sent.whole (WritesPart-after before between after sent.first holds sent.wrote part)

-- a text that is sent at once, behind all that was held
pub Sends-at_once : {T E : Type 0} (result : Result T E) (before between after : Option (List ℕ)) (held text : List ℕ)
    → between ≡ appended before held → Wrote result between after text → Sends result before after held [] text
Sends-at_once (Ok x) before between after held text sent wrote =
    record {
      first = held ++ text;
      wrote = appended-after before between after held text sent wrote;
      whole = append-nil (held ++ text);
    }
Sends-at_once (Err e) before between after held text sent part =
    WritesPart-after before between after held text sent part
