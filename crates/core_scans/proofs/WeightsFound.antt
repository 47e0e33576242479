-- What a search among edge rows finds.
use Rattle.std.proofs.Common.{◌≡◌, ℕ, zero, suc, ◌==◌, ◌&&◌, Bool, true, false, cond, List, [], ◌∷◌, Option, Some, None}
use Rattle.std.proofs.Common.{is_some, refl, ap, ◌∙◌, eqb-true}
use Rattle.std.specs.Prelude.{slice_get, find, option_map}
use Rattle.scan_record.specs.declared.rows.EdgeRow.{EdgeRow}
use Rattle.scan_record.specs.ScanGraph.{leads_to, weight_to}
use Rattle.scan_record.proofs.FoundItems.{itself}

-- an edge with a target, a key and a weight, at a place
pub record IsFound (es : List EdgeRow) (b w : ℕ) : Type 0 where
  pub place : ℕ
  pub edge : EdgeRow
  pub at : slice_get es place ≡ Some edge
  pub row : ℕ
  pub target : edge.target ≡ Some row
  pub key : edge.key ≡ b
  pub weight : edge.weight ≡ w

pub found_by : (b w : ℕ) (es : List EdgeRow) → weight_to b es ≡ Some w → IsFound es b w
found_by b w [] h = absurd (cc)
found_by b w (e ∷ es) h = by (found_by b w es) e.target refl (e.key == b) refl h
  where
    by : (weight_to b es ≡ Some w → IsFound es b w) → (o : Option ℕ) → e.target ≡ o → (c : Bool) → (e.key == b) ≡ c
        → option_map (λ (x : EdgeRow). x.weight) (cond (is_some o && c) (Some e) (find (leads_to b) es)) ≡ Some w
        → IsFound (e ∷ es) b w
    by more (Some t) is true k f = record {
      place = 0;
      edge = e;
      at = refl;
      row = t;
      target = is;
      key = eqb-true e.key b
          k;
      weight = cc;
    }
    by more (Some t) is false k f = let r = more f in record {
      place = suc r.place;
      edge = r.edge;
      at = r.at;
      row =
          r.row;
      target = r.target;
      key = r.key;
      weight = r.weight;
    }
    by more None is c k f = let r = more f in record {
      place = suc r.place;
      edge = r.edge;
      at = r.at;
      row = r.row;
      target = r.target;
      key = r.key;
      weight = r.weight;
    }

pub some_found : (b : ℕ) (es : List EdgeRow) (place : ℕ) (e : EdgeRow) (t : ℕ) → slice_get es place ≡ Some e
    → e.target ≡ Some t → e.key ≡ b → (w : ℕ) × (weight_to b es ≡ Some w)
some_found b [] place e t at is key = absurd (cc)
some_found b (d ∷ es) zero e t at is key =
    let same : d ≡ e = cc in
    let hits : leads_to b d ≡ true = ap (leads_to b) same ∙ ((λ i. is_some (is i) && (key i == b)) ∙ itself b) in
    (d.weight, ap (λ (c : Bool). option_map (λ (x : EdgeRow). x.weight) (cond c (Some d) (find (leads_to b) es))) hits)
some_found b (d ∷ es) (suc place) e t at is key = by (leads_to b d) refl (some_found b es place e t at is key)
  where
    by : (c : Bool) → leads_to b d ≡ c → (w : ℕ) × (weight_to b es ≡ Some w) → (w : ℕ) × (weight_to b (d ∷ es) ≡ Some w)
    by true h r = (
      d.weight,
      ap (λ (c : Bool). option_map (λ (x : EdgeRow). x.weight)
          (cond c (Some d) (find (leads_to b) es))) h,
    )
    by false h r = (
      r.0,
      ap (λ (c : Bool). option_map (λ (x : EdgeRow). x.weight)
          (cond c (Some d) (find (leads_to b) es))) h ∙ r.1,
    )
