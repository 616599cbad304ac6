-- Texts that are written piece by piece.
use Rattle.std.proofs.Common.{◌≡◌, ℕ, ◌+◌, ◌-◌, ◌<◌, ◌≤◌, List, [], ◌∷◌, ◌++◌, length, get_or, take, drop, map, All, Option, Result, Ok, Err, refl, sym, ap, subst, ◌∙◌}
use Rattle.std.specs.Prelude.{IsErr}
use Rattle.std.specs.List.{flat_map, AllByRecursion}
use Rattle.std.proofs.lemmas.List.{append_assoc, append-nil, take_all, take_more, drop_more, take-append-drop}
use Rattle.std.proofs.lemmas.List.Concat.{flat_map-append, flat_map-cons}
use Rattle.std.proofs.lemmas.List.Elements.{recursion_from_All}
use Rattle.file_model.specs.declared.fields.Node.{Node}
use Rattle.file_model.specs.declared.fields.PatchField.{PatchField}
use Rattle.file_model.specs.Lists.{IndexLists}
use Rattle.file_model.specs.Spelling.{node_text, field_text, header_text, index_text, body_text}
use Rattle.file_model.specs.Lists.{SeenBody}
use Rattle.patch_file.specs.Headers.{header_spelling}
use Rattle.view_outside.specs.Written.{Wrote, WritesPart}
use Rattle.patch_file.specs.Batches.{Sent, Sends, Sent-then, Sent-part, Sends-part}
use Rattle.patch_file.specs.PartsState.{IsSpelledIn}

-- the texts of items in a row, up to one of them, its own, and those behind it
flat_map-split : {X : Type 0} (text : X → List ℕ) (xs : List X) (i : ℕ) (d : X) → i < length xs
    → flat_map text xs ≡ flat_map text (take i xs) ++ (text (get_or xs i d) ++ flat_map text (drop (i + 1) xs))
flat_map-split text xs i d lt =
    ap (flat_map text) (sym (take-append-drop i xs) ∙ ap (λ ys. take i xs ++ ys) (drop_more xs i d lt))
    ∙ flat_map-append text (take i xs) (get_or xs i d ∷ drop (i + 1) xs)
    ∙ ap (λ t. flat_map text (take i xs) ++ t) (flat_map-cons text (get_or xs i d) (drop (i + 1) xs))

flat_map-one : {X : Type 0} (text : X → List ℕ) (x : X) → flat_map text (x ∷ []) ≡ text x
flat_map-one text x = flat_map-cons text x [] ∙ append-nil (text x)

-- the texts of items in a row and the next one's
flat_map-next : {X : Type 0} (text : X → List ℕ) (xs : List X) (i : ℕ) (d : X) → i < length xs
    → flat_map text (take (i + 1) xs) ≡ flat_map text (take i xs) ++ text (get_or xs i d)
flat_map-next text xs i d lt =
    ap (flat_map text) (take_more xs i d lt) ∙ flat_map-append text (take i xs) (get_or xs i d ∷ [])
    ∙ ap (λ (t : List ℕ). flat_map text (take i xs) ++ t) (flat_map-one text (get_or xs i d))

-- an item more was given to the batch
pub item_sent : {X : Type 0} (text : X → List ℕ) (xs : List X) (i : ℕ) (d : X) (before between after : Option (List ℕ))
    (held holds left item : List ℕ)
    → i < length xs → item ≡ text (get_or xs i d)
    → Sent before between held holds (flat_map text (take i xs)) → Sent between after holds left item
    → Sent before after held left (flat_map text (take (i + 1) xs))
item_sent text xs i d before between after held holds left item lt is sent more =
    let whole : flat_map text (take i xs) ++ item ≡ flat_map text (take (i + 1) xs) =
    ap (λ (t : List ℕ). flat_map text (take i xs) ++ t) is ∙ sym (flat_map-next text xs i d lt) in
    subst (Sent before after held left) whole
    (Sent-then before between after held holds left (flat_map text (take i xs)) item sent more)

-- the sink failed in the text of an item
pub item_part : {X : Type 0} (text : X → List ℕ) (xs : List X) (i : ℕ) (d : X) (before between after : Option (List ℕ))
    (held holds item : List ℕ)
    → i < length xs → item ≡ text (get_or xs i d)
    → Sent before between held holds (flat_map text (take i xs)) → WritesPart between after (holds ++ item)
    → WritesPart before after (held ++ flat_map text xs)
item_part text xs i d before between after held holds item lt is sent part =
    let front = flat_map text (take i xs) in
    let behind = flat_map text (drop (i + 1) xs) in
    let some : WritesPart before after (held ++ (front ++ item)) =
    Sent-part before between after held holds front item sent part in
    let whole : (front ++ item) ++ behind ≡ flat_map text xs = append_assoc front item behind
    ∙ ap (λ (t : List ℕ). front ++ (t ++ behind)) is ∙ sym (flat_map-split text xs i d lt) in
    subst (λ (t : List ℕ). WritesPart before after (held ++ t)) whole
    (Sends-part before after held (front ++ item) behind some)

-- all items were given
pub all_sent : {X : Type 0} (text : X → List ℕ) (xs : List X) (i : ℕ) (before after : Option (List ℕ))
    (held holds : List ℕ)
    → length xs ≤ i → Sent before after held holds (flat_map text (take i xs))
    → Sent before after held holds (flat_map text xs)
all_sent text xs i before after held holds all sent =
    subst (λ (ys : List _). Sent before after held holds (flat_map text ys)) (take_all i xs all) sent

-- ---- what a writer did

pub Wrote-failed : {T E : Type 0} (result : Result T E) (before after : Option (List ℕ)) (text : List ℕ) → IsErr result
    → WritesPart before after text → Wrote result before after text
Wrote-failed (Ok x) before after text failed part = absurd cc
Wrote-failed (Err e) before after text failed part = part

pub Sends-failed : {T E : Type 0} (result : Result T E) (before after : Option (List ℕ)) (held holds text : List ℕ)
    → IsErr result → WritesPart before after (held ++ text) → Sends result before after held holds text
Sends-failed (Ok x) before after held holds text failed part = absurd cc
Sends-failed (Err e) before after held holds text failed part = part

-- a text is given behind another
pub Sends-after : {T E : Type 0} (result : Result T E) (before between after : Option (List ℕ))
    (held holds left front text : List ℕ)
    → Sent before between held holds front → Sends result between after holds left text
    → Sends result before after held left (front ++ text)
Sends-after (Ok x) before between after held holds left front text sent more =
    Sent-then before between after held holds left front text sent more
Sends-after (Err e) before between after held holds left front text sent part =
    Sent-part before between after held holds front text sent part

-- the same text by another spelling
pub Sent-same : (before after : Option (List ℕ)) (held holds front bytes text : List ℕ) → bytes ≡ text
    → Sent before after held holds (front ++ bytes) → Sent before after held holds (front ++ text)
Sent-same before after held holds front bytes text same sent =
    subst (λ (t : List ℕ). Sent before after held holds (front ++ t)) same sent

pub WritesPart-same : (before after : Option (List ℕ)) (front bytes text : List ℕ) → bytes ≡ text
    → WritesPart before after (front ++ bytes) → WritesPart before after (front ++ text)
WritesPart-same before after front bytes text same part =
    subst (λ (t : List ℕ). WritesPart before after (front ++ t)) same part

-- ---- bodies by their bytes

spelled : (version : ℕ) (bodies : List SeenBody) → AllByRecursion (IsSpelledIn version) bodies
    → flat_map (λ body. body.bytes) bodies ≡ flat_map (body_text version) (map (λ body. body.lists) bodies)
spelled version [] are = refl
spelled version (body ∷ bodies) are =
    let first : body.bytes ≡ body_text version body.lists = are.0 in
    let others = spelled version bodies are.1 in
    flat_map-cons (λ (b : SeenBody). b.bytes) body bodies
    ∙ ap (λ (t : List ℕ). t ++ flat_map (λ (b : SeenBody). b.bytes) bodies) first
    ∙ ap (λ (t : List ℕ). body_text version body.lists ++ t) others
    ∙ sym (flat_map-cons (body_text version) body.lists (map (λ (b : SeenBody). b.lists) bodies))

pub bodies_text : (version : ℕ) (bodies : List SeenBody) → All (IsSpelledIn version) bodies
    → flat_map (λ body. body.bytes) bodies ≡ flat_map (body_text version) (map (λ body. body.lists) bodies)
bodies_text version bodies are = spelled version bodies (recursion_from_All (IsSpelledIn version) bodies are)

-- ---- what stands before the bodies

pub index_text-is : (index : IndexLists) (version : ℕ) (nodes : List Node) (fields : List PatchField) (header : List ℕ)
    → header ≡ header_spelling version (length nodes) (length fields)
    → record { version = version; nodes = nodes; fields = fields } ≡ index
    → header ++ (flat_map node_text nodes ++ flat_map field_text fields) ≡ index_text index
unfolding index_text header_text
index_text-is index version nodes fields header spells same =
    let units = flat_map node_text nodes ++ flat_map field_text fields in
    ap (λ (h : List ℕ). h ++ units) spells ∙ ap index_text same
