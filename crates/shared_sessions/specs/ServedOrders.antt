-- What is appended as a session is served, with the tries by which its seat's tries grow.
use Rattle.std.proofs.Common.{◌≡◌, ℕ, List, [], ◌∷◌, ◌++◌, Option, refl, sym, ap, subst, ◌∙◌}
use Rattle.std.proofs.lemmas.List.{append_assoc, append-nil}
use Rattle.script_model.specs.declared.orders.Order.{Order}
use Rattle.session_model.specs.Sessions.{SessionState}
use Rattle.text_model.specs.Lines.{Adds}
use Rattle.run_model.specs.Worlds.{World}
use Rattle.run_model.specs.Lines.{Did}
use Rattle.run_model.specs.LineTexts.{IsTextOf, AreTextsOf, NoText, OneText}
use Rattle.serve_model.specs.ServedLines.{Serves, ServesAll, NoOrder, OneOrder, printed_tries, all_tries, IsServedText}

-- one order was served: its text was appended, and the tries grew by those that it prints
pub record ServesOne (w : World) (a : Option SessionState) (order : Order) (b : Option SessionState)
    (tries now : List (ℕ × ℕ)) (before after : List ℕ) : Type 0 where
  pub did : Did
  pub serves : Serves w a order did b
  pub grown : now ≡ tries ++ printed_tries did
  pub text : List ℕ
  pub is : IsTextOf did text
  pub adds : Adds before after text

-- orders were served, one after another
pub record ServesSome (w : World) (a : Option SessionState) (orders : List Order) (b : Option SessionState)
    (tries now : List (ℕ × ℕ)) (before after : List ℕ) : Type 0 where
  pub made : List (ℕ × ℕ)
  pub grown : now ≡ tries ++ made
  pub text : List ℕ
  pub is : IsServedText w a orders made text b
  pub adds : Adds before after text

pub none_served : (w : World) (a : Option SessionState) (tries : List (ℕ × ℕ)) (before : List ℕ)
    → ServesSome w a [] a tries tries before before
unfolding all_tries
none_served w a tries before = record {
  made = [];
  grown = sym (append-nil tries);
  text = [];
  is = record { dids = []; serves = NoOrder; tries_are = refl; is = NoText };
  adds = record { is = sym (append-nil before) };
}

-- ---- one more at the end

serves_more : (w : World) (a b c : Option SessionState) (orders : List Order) (dids : List Did) (order : Order)
    (did : Did) → ServesAll w a orders dids b → Serves w b order did c
    → ServesAll w a (orders ++ order ∷ []) (dids ++ did ∷ []) c
serves_more w a b c _ _ order did NoOrder serves = OneOrder serves NoOrder
serves_more w a b c _ _ order did
    (OneOrder {b = x} {order = first} {orders = orders} {did = does} {dids = dids} begins rest) serves = OneOrder begins
    (serves_more w x b c orders dids order did rest serves)

tries_more : (dids : List Did) (did : Did) → all_tries (dids ++ did ∷ []) ≡ all_tries dids ++ printed_tries did
unfolding all_tries
tries_more [] did = append-nil (printed_tries did)
tries_more (first ∷ dids) did = ap (λ (ts : List (ℕ × ℕ)). printed_tries first ++ ts) (tries_more dids did)
    ∙ sym (append_assoc (printed_tries first) (all_tries dids) (printed_tries did))

texts_more : (dids : List Did) (texts : List ℕ) (did : Did) (text : List ℕ) → AreTextsOf dids texts → IsTextOf did text
    → AreTextsOf (dids ++ did ∷ []) (texts ++ text)
texts_more _ _ did text NoText is = subst (AreTextsOf (did ∷ [])) (append-nil text) (OneText text [] is NoText)
texts_more _ _ did text (OneText {did = first} {dids = dids} begins rest does others) is =
    subst (AreTextsOf (first ∷ (dids ++ did ∷ []))) (sym (append_assoc begins rest text)) (OneText begins (rest
    ++ text) does (texts_more dids rest did text others is))

pub one_served : (w : World) (a b c : Option SessionState) (orders : List Order) (order : Order)
    (tries mid now : List (ℕ × ℕ)) (before between after : List ℕ) → ServesSome w a orders b tries mid before between
    → ServesOne w b order c mid now between after
    → ServesSome w a (orders ++ order ∷ []) c tries now before after
one_served w a b c orders order tries mid now before between after some one = record {
  made = some.made ++ printed_tries one.did;
  grown = one.grown ∙ ap (λ (ts : List (ℕ × ℕ)). ts ++ printed_tries one.did) some.grown
      ∙ append_assoc tries some.made (printed_tries one.did);
  text = some.text ++ one.text;
  is = record {
    dids = some.is.dids ++ one.did ∷ [];
    serves = serves_more w a b c orders some.is.dids order one.did some.is.serves one.serves;
    tries_are = tries_more some.is.dids one.did
        ∙ ap (λ (ts : List (ℕ × ℕ)). ts ++ printed_tries one.did) some.is.tries_are;
    is = texts_more some.is.dids some.text one.did one.text some.is.is one.is;
  };
  adds = record {
    is = one.adds.is ∙ ap (λ (bytes : List ℕ). bytes ++ one.text) some.adds.is
        ∙ append_assoc before some.text one.text;
  };
}
