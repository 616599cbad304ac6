-- Tries in order.
use Rattle.std.proofs.Common.{◌≡◌, ℕ, ◌≤◌, List, [], ◌∷◌, ◌++◌, get_or, ap, arith}
use Rattle.std.specs.List.{All}
use Rattle.std.proofs.lemmas.List.Elements.{All-nil, All-head, All-tail, All-push, All-weaker}
use Rattle.token_words.specs.Tries.{AreTries, IsInOrder, IsSeen, Rise}

rise_more : (epochs : List ℕ) (tries : List (ℕ × ℕ)) (p : ℕ) → All (IsSeen epochs) tries → Rise tries
    → Rise (tries ++ (p, get_or epochs p 0) ∷ [])
unfolding Rise
rise_more epochs [] p seen rise = (All-nil (IsInOrder (p, get_or epochs p 0)), tt)
rise_more epochs (try ∷ later) p seen rise =
    let here : try.1 ≤ get_or epochs try.0 0 = All-head (IsSeen epochs) try later seen in
    let last : p ≡ try.0 → try.1 ≤ get_or epochs p 0 = λ same. let e : get_or epochs p 0 ≡ get_or epochs try.0 0 = ap (λ (q : ℕ). get_or epochs q 0) same in omega arith in
    (All-push (IsInOrder try) later (p, get_or epochs p 0) rise.0 last, rise_more epochs later p (All-tail (IsSeen epochs) try later seen) rise.1)

-- a try is answered by the epoch that its patch has now
pub tries-more : (epochs : List ℕ) (tries : List (ℕ × ℕ)) (p : ℕ) → AreTries epochs tries → AreTries epochs (tries ++ (p, get_or epochs p 0) ∷ [])
tries-more epochs tries p are = record {
  seen = All-push (IsSeen epochs) tries (p, get_or epochs p 0) are.seen (omega arith);
  rise = rise_more epochs tries p are.seen are.rise;
}

-- epochs don't fall
pub tries-later : (epochs later : List ℕ) (tries : List (ℕ × ℕ)) → ((p : ℕ) → get_or epochs p 0 ≤ get_or later p 0) → AreTries epochs tries → AreTries later tries
tries-later epochs later tries up are = record {
  seen = All-weaker (IsSeen epochs) (IsSeen later) more tries are.seen;
  rise = are.rise;
}
  where
    more : (try : ℕ × ℕ) → IsSeen epochs try → IsSeen later try
    more try before = let higher = up try.0 in omega arith

pub no_tries : (epochs : List ℕ) → AreTries epochs []
unfolding Rise
no_tries epochs = record { seen = All-nil (IsSeen epochs); rise = tt }
