-- The matrices of a map that has all its lines, and those of a list of maps.
use Rattle.std.specs.Prelude.{◌≡◌, ℕ, ◌+◌, ◌<◌, ◌≤◌, zero, suc, List, [], ◌∷◌, ◌++◌, All, Some, Err, length, map, take, refl}
use Rattle.std.proofs.Common.{ap, arith, get_or, subst, sym, ◌∙◌}
use Rattle.std.proofs.lemmas.List.{length-drop, length-map, length-take, take_all, take_more}
use Rattle.std.proofs.lemmas.List.Elements.{All-drop, All-push, All-take}
use Rattle.std.proofs.lemmas.Option.{slice_get-get_or}
use Rattle.map_laws.specs.LoopLaws.{map-take_more}
use Rattle.map_file.specs.declared.map_text.MapText.{MapText}
use Rattle.map_file.specs.declared.use_text.UseText.{UseText}
use Rattle.map_file.specs.Shaped.{IsMapWhole, NamesMap}
use Rattle.mapped_model.specs.Tells.{TellsBad, TellsMap, TellsMaps}
use Rattle.mapped_model.specs.Uses.{IsMap, inverse_of, map_at, matrix_of}
use Rattle.mapped_model.specs.declared.fault.MappingFault.{MappingFault}
use Rattle.mapped_model.specs.declared.fault.MappingFault.TheVariants as fault
use Rattle.set_map.specs.Fitting.{BothProductsFit}
use Rattle.set_map.specs.Matrices.{AreInverse, ArePair, Matrix}

pub matrix_size : (m : MapText) → IsMapWhole m → length (matrix_of m) ≡ m.size
matrix_size m w = omega (arith, length-take m.size m.lines, w.lines)

inverse_size : (m : MapText) → IsMapWhole m → length (inverse_of m) ≡ m.size
inverse_size m w = omega (arith, length-drop m.size m.lines, w.lines)

pub pair_of : (m : MapText) → IsMapWhole m → ArePair (matrix_of m) (inverse_of m)
pair_of m w = record {
  first = record {
    rows = refl;
    numbers = subst (λ n. All (λ row. length row ≡ n) (matrix_of m)) (sym (matrix_size m w))
        (All-take (λ row. length row ≡ m.size) m.size m.lines w.shape.numbers);
  };
  second = record {
    rows = inverse_size m w ∙ sym (matrix_size m w);
    numbers = subst (λ n. All (λ row. length row ≡ n) (inverse_of m)) (sym (matrix_size m w))
        (All-drop (λ row. length row ≡ m.size) m.size m.lines w.shape.numbers);
  };
}

pub lines_enough : (m : MapText) → IsMapWhole m → m.size ≤ length m.lines
lines_enough m w = omega (arith, w.lines)

-- ---- maps read one after the other

module _ (maps : List MapText) where
  pub record AreRead (i : ℕ) (matrices : List Matrix) : Type 0 where
    pub right : All IsMap (take i maps)
    pub same : matrices ≡ map matrix_of (take i maps)

  pub none_read : AreRead 0 []
  none_read = record { right = λ k d within. absurd (omega arith); same = refl }

  pub one_read : (i : ℕ) (matrices next : List Matrix) (m : MapText) (matrix : Matrix)
      → AreRead i matrices → m ≡ get_or maps i m → i < length maps → IsMap m
      → matrix ≡ matrix_of m → next ≡ matrices ++ matrix ∷ [] → AreRead (i + 1) next
  one_read i matrices next m matrix h at lt right is pushed = record {
    right = subst (All IsMap) (sym (take_more maps i m lt))
        (All-push IsMap (take i maps) (get_or maps i m) h.right (subst IsMap at right));
    same = pushed ∙ ap (λ ys. ys ++ matrix ∷ []) h.same
        ∙ ap (λ x. map matrix_of (take i maps) ++ x ∷ []) is
        ∙ sym (map-take_more matrix_of maps i m at lt);
  }

  pub all_read : (i : ℕ) (matrices : List Matrix) → AreRead i matrices → length maps ≤ i
      → All IsMap maps × (matrices ≡ map matrix_of maps)
  all_read i matrices h le = (
    subst (All IsMap) (take_all i maps le) h.right,
    h.same ∙ ap (map matrix_of) (take_all i maps le),
  )

  pub map_failed : (i : ℕ) (matrices : List Matrix) (m : MapText) (reason : MappingFault)
      → AreRead i matrices → m ≡ get_or maps i m → i < length maps → TellsMap m (Err reason)
      → TellsMaps maps (Err reason)
  map_failed i matrices m (fault.BadMaps line) h at lt tells = absurd tells
  map_failed i matrices m (fault.BadMap name) h at lt tells = (
    m,
    record {
      place = i;
      here = slice_get-get_or maps i m lt ∙ ap Some (sym at);
      none = tells.0;
      before = h.right;
    },
    tells.1,
  )
  map_failed i matrices m (fault.Refused refusal) h at lt tells = absurd tells
  map_failed i matrices m (fault.Overflow row) h at lt tells = absurd tells
  map_failed i matrices m fault.Memory h at lt tells = tt

-- ---- the matrix at a place

pub matrix_at : (maps : List MapText) (place : ℕ) (d : Matrix) → place < length maps
    → get_or (map matrix_of maps) place d ≡ matrix_of (map_at maps place)
matrix_at [] place d lt = absurd (omega (arith, lt))
matrix_at (m ∷ maps) zero d lt = refl
matrix_at (m ∷ maps) (suc place) d lt = matrix_at maps place d (omega (arith, lt))

-- ---- a map at a place

pub whole_at : (maps items : List MapText) (i : ℕ) (m : MapText) → All IsMapWhole maps
    → items ≡ maps
    → m ≡ get_or items i m → i < length maps → IsMapWhole m
whole_at maps items i m whole same at lt =
    subst IsMapWhole (sym (at ∙ ap (λ xs. get_or xs i m) same)) (whole i m lt)

pub pair_as : (m : MapText) (a b : Matrix) → IsMapWhole m → a ≡ matrix_of m → b ≡ inverse_of m
    → ArePair a b
pair_as m a b whole is inverse =
    subst (λ c. ArePair c b) (sym is) (subst (ArePair (matrix_of m)) (sym inverse) (pair_of m whole))

module _ (m : MapText) (a b : Matrix) (is : a ≡ matrix_of m) (inverse : b ≡ inverse_of m) where
  pub read_right : BothProductsFit a b → AreInverse a b → IsMap m
  read_right fits are = record {
    inverse = subst (AreInverse (matrix_of m)) inverse (subst (λ c. AreInverse c b) is are);
    fits = subst (BothProductsFit (matrix_of m)) inverse (subst (λ c. BothProductsFit c b) is fits);
  }

  pub not_inverse : ¬ (AreInverse a b) → ¬ (IsMap m)
  not_inverse not map =
      not (subst (λ c. AreInverse c b) (sym is)
      (subst (AreInverse (matrix_of m)) (sym inverse) map.inverse))

  pub not_fit : ¬ (BothProductsFit a b) → ¬ (IsMap m)
  not_fit not map =
      not (subst (λ c. BothProductsFit c b) (sym is)
      (subst (BothProductsFit (matrix_of m)) (sym inverse) map.fits))

-- a map that isn't one is reported
pub told_bad : (m : MapText) (reason : MappingFault) → ¬ (IsMap m) → TellsBad m reason
    → TellsMap m (Err reason)
told_bad m (fault.BadMaps line) not tells = absurd tells
told_bad m (fault.BadMap name) not tells = (not, tells)
told_bad m (fault.Refused refusal) not tells = absurd tells
told_bad m (fault.Overflow row) not tells = absurd tells
told_bad m fault.Memory not tells = tt

-- the map of a use is there
pub map_there : (maps : List MapText) (matrices : List Matrix) (uses : List UseText) (i : ℕ)
    (u : UseText) → All (NamesMap maps) uses → matrices ≡ map matrix_of maps
    → u ≡ get_or uses i u → i < length uses → u.map < length matrices
map_there maps matrices uses i u named same here lt =
    subst (λ n. u.map < n) (sym (ap length same ∙ length-map maps matrix_of))
    (subst (NamesMap maps) (sym here) (named i u lt))

pub map_here : (maps : List MapText) (uses : List UseText) (i : ℕ) (u : UseText)
    → All (NamesMap maps) uses → u ≡ get_or uses i u → i < length uses → NamesMap maps u
map_here maps uses i u named here lt = subst (NamesMap maps) (sym here) (named i u lt)
