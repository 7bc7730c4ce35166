-- Known bytes that are taken or appended in several steps.
use Rattle.std.proofs.Common.{◌≡◌, ℕ, List, [], ◌++◌, length, take, drop, refl, sym, ap, ◌∙◌, append_assoc, Option, None, Some}
use Rattle.std.proofs.lemmas.List.{append-nil, take-append-drop}
use Rattle.std.specs.Io.KnownBytes.{Appends, Consumes, Keeps}
use Rattle.std.proofs.Math.Seq.{take-append_seam, take-length}
use Rattle.cga_top.specs.Prefixes.{AppendsSome}
use Rattle.cga_fraction.proofs.Door.{all_of_it as appends_kept}

pub consumes_nothing : (known : Option (List ℕ)) → Consumes known known []
consumes_nothing None = tt
consumes_nothing (Some xs) = refl

pub consumes_more : (a b c : Option (List ℕ)) (xs ys : List ℕ) → Consumes a b xs → Consumes b c ys
    → Consumes a c (xs ++ ys)
consumes_more None b c xs ys p q = tt
consumes_more (Some xs0) None c xs ys p q = absurd p
consumes_more (Some xs0) (Some ys0) None xs ys p q = absurd q
consumes_more (Some xs0) (Some ys0) (Some zs0) xs ys p q = rw (p, q) (sym (append_assoc xs ys zs0))

-- Who stays as it is appends nothing.
pub appends_nothing : (known : Option (List ℕ)) → Appends known known []
appends_nothing None = tt
appends_nothing (Some xs) = sym (append-nil xs)

-- Who appends one text and then another appends both.
pub appends_more : (a b c : Option (List ℕ)) (xs ys : List ℕ) → Appends a b xs → Appends b c ys → Appends a c (xs ++ ys)
appends_more None b c xs ys p q = tt
appends_more (Some xs0) None c xs ys p q = absurd p
appends_more (Some xs0) (Some ys0) None xs ys p q = absurd q
appends_more (Some xs0) (Some ys0) (Some zs0) xs ys p q = rw (q, p) (append_assoc xs0 xs ys)

-- a write that failed leaves what was written before it
pub appends_so_far : (a b c : Option (List ℕ)) (done rest bytes : List ℕ) → done ++ rest ≡ bytes → Appends a b done
    → Keeps b c → AppendsSome a c bytes
appends_so_far a b c done rest bytes e p q =
    (length done, let same : take (length done) bytes ≡ done = rw (← e) (take-append_seam done rest) in rw same (appends_kept a b c done p q))

-- one more write
pub appends_piece : (a b c : Option (List ℕ)) (done rest others bytes : List ℕ) (n : ℕ) → done ++ rest ≡ bytes
    → Appends a b done → Appends b c (take n rest) → others ≡ drop n rest
    → (xs : List ℕ) × (xs ++ others ≡ bytes) × Appends a c xs
appends_piece a b c done rest others bytes n e p q o =
    (done ++ take n rest, rw o (append_assoc done (take n rest) (drop n rest) ∙ ap (λ (xs : List ℕ). done ++ xs) (take-append-drop n rest) ∙ e), appends_more a b c done (take n rest) p q)

-- all was written, and a flush keeps it
pub appends_all : (a b c : Option (List ℕ)) (bytes : List ℕ) → Appends a b bytes → Keeps b c → AppendsSome a c bytes
appends_all a b c bytes p q = (length bytes, rw take-length (appends_kept a b c bytes p q))

-- all of a text is some of it
pub appends_some : (a b : Option (List ℕ)) (bytes : List ℕ) → Appends a b bytes → AppendsSome a b bytes
appends_some a b bytes p = (length bytes, rw take-length p)
