-- The laws of lanes, once over the width: what the lanes of a built number, of a number's low bits and of a number shifted down are, that a lane
-- above a number is 0, and that lanes decide a number. By division with rest at powers of two.
use Rattle.std.specs.Prelude.{◌≡◌, refl, ℕ, zero, suc, ◌+◌, ◌-◌, ◌*◌, ◌/◌, ◌%◌, ◌^◌, ◌≤◌, ◌<◌}
use Rattle.basis.proofs.Names.{sym, ap, ap₂, ◌∙◌, ⊎_elim, zero-div, zero-mod, div-eq_of_lt, div-add-mod', add-mul, mul-add, mul-one, div-one, mul-suc, mul-zero, mul_comm, mul_assoc, mul_right_comm, zero-mul, add_comm, mod-eq_of_lt, mod-lt, mod-one, mul-add-mod_self_right, le_of_suc-le-suc, eq-or-lt_of_le, mul-le-mul_left, lt-suc_self, lt_trans, not-suc-le-zero, le_of_eq, le_trans, div-mul-le_self, arith, pow_pos, pow_mono, pow-add, high, field, shr-shr, mod-mod-pow, mod-pow-add, digits_lt}
use Rattle.lanes.specs.Lane.{lane, build, register}

-- w * suc n bits are w bits on top of w * n
pub one_lane_more : (w n : ℕ) → 2 ^ (w * suc n) ≡ 2 ^ w * 2 ^ (w * n)
one_lane_more w n = ap (λ (k : ℕ). 2 ^ k) (mul-suc w n ∙ add_comm (w * n) w) ∙ pow-add 2 w (w * n)

pub lane_lt : (w i x : ℕ) → lane w i x < 2 ^ w
unfolding lane
lane_lt w i x = mod-lt (x / 2 ^ (w * i)) (pow_pos w)

pub lane_zero : (w i : ℕ) → lane w i 0 ≡ 0
unfolding lane
lane_zero w i = ap (λ (y : ℕ). y % 2 ^ w) (zero-div (2 ^ (w * i))) ∙ zero-mod (2 ^ w)

pub lane_first : (w x : ℕ) → lane w 0 x ≡ x % 2 ^ w
unfolding lane
lane_first w x = ap (λ (k : ℕ). x / 2 ^ k % 2 ^ w) (mul-zero w) ∙ ap (λ (y : ℕ). y % 2 ^ w) (div-one x)

pub build_lt : (w n : ℕ) (f : ℕ → ℕ) → ((i : ℕ) → i < n → f i < 2 ^ w) → build w n f < 2 ^ (w * n)
unfolding build
build_lt w zero f h = pow_pos (w * zero)
build_lt w (suc n) f h =
    rw (one_lane_more w n) (digits_lt (h n (lt-suc_self n)) (build_lt w n f (λ i l. h i (lt_trans l (lt-suc_self n)))))

-- a built register is below 2 ^ 64
pub register_lt : (w : ℕ) (f : ℕ → ℕ) → ((i : ℕ) → i < 64 / w → f i < 2 ^ w) → register w f < 2 ^ 64
unfolding register
register_lt w f h =
    le_trans (build_lt w (64 / w) f h) (pow_mono {j = 64} (le_trans (le_of_eq (mul_comm w (64 / w))) (div-mul-le_self 64 w)))

pub build_ext : (w n : ℕ) (f g : ℕ → ℕ) → ((i : ℕ) → i < n → f i ≡ g i) → build w n f ≡ build w n g
unfolding build
build_ext w zero f g h = refl
build_ext w (suc n) f g h =
    ap₂ (λ (x y : ℕ). x * 2 ^ (w * n) + y) (h n (lt-suc_self n)) (build_ext w n f g (λ i l. h i (lt_trans l (lt-suc_self n))))

-- a built number is multiplied lane by lane
pub mul_builds : (w n x : ℕ) (f : ℕ → ℕ) → build w n f * x ≡ build w n (λ i. f i * x)
unfolding build
mul_builds w zero x f = zero-mul x
mul_builds w (suc n) x f = add-mul (f n * 2 ^ (w * n)) (build w n f) x ∙ ap₂ ◌+◌ (mul_right_comm (f n) (2 ^ (w * n)) x) (mul_builds w n x f)

-- what stands above a field does not reach it
pub above : (h m j k x : ℕ) → j + k ≤ m → (h * 2 ^ m + x) / 2 ^ k % 2 ^ j ≡ x / 2 ^ k % 2 ^ j
above h m j k x l =
    sym (field (h * 2 ^ m + x) j k)
    ∙ ap (λ (y : ℕ). y / 2 ^ k)
    (ap (λ (y : ℕ). (h * y + x) % 2 ^ (j + k)) (ap (λ (y : ℕ). 2 ^ y) split ∙ pow-add 2 (m - (j + k)) (j + k))
    ∙ ap (λ (y : ℕ). (y + x) % 2 ^ (j + k)) (sym (mul_assoc h (2 ^ (m - (j + k))) (2 ^ (j + k))))
    ∙ mul-add-mod_self_right (h * 2 ^ (m - (j + k))) (2 ^ (j + k)) x)
    ∙ field x j k
  where
    split : m ≡ m - (j + k) + (j + k)
    split = omega arith

-- lane i of n lies below the end of these
pub below_end : (w i n : ℕ) → i < n → w + w * i ≤ w * n
below_end w i n l = le_trans (le_of_eq (add_comm w (w * i) ∙ sym (mul-suc w i))) (mul-le-mul_left w l)

-- lane i of what is built of f is f i
pub lane-build : (w n : ℕ) (f : ℕ → ℕ) → ((i : ℕ) → i < n → f i < 2 ^ w) → (i : ℕ) → i < n → lane w i (build w n f) ≡ f i
unfolding lane build
lane-build w zero f h i l = absurd (not-suc-le-zero l)
lane-build w (suc n) f h i l = ⊎_elim here (λ k. below k (lane-build w n f h' i k)) (eq-or-lt_of_le (le_of_suc-le-suc l))
  where
    h' : (j : ℕ) → j < n → f j < 2 ^ w
    h' j k = h j (lt_trans k (lt-suc_self n))

    here : i ≡ n → (f n * 2 ^ (w * n) + build w n f) / 2 ^ (w * i) % 2 ^ w ≡ f i
    here e =
        ap (λ (k : ℕ). (f n * 2 ^ (w * n) + build w n f) / 2 ^ (w * k) % 2 ^ w) e
        ∙ ap (λ (y : ℕ). y % 2 ^ w) (high (f n) (w * n) (build_lt w n f h'))
        ∙ mod-eq_of_lt (h n (lt-suc_self n)) ∙ ap f (sym e)

    below : i < n → build w n f / 2 ^ (w * i) % 2 ^ w ≡ f i → (f n * 2 ^ (w * n) + build w n f) / 2 ^ (w * i) % 2 ^ w ≡ f i
    below k e = above (f n) (w * n) w (w * i) (build w n f) (below_end w i n k) ∙ e

pub lane-register : (w : ℕ) (f : ℕ → ℕ) → ((i : ℕ) → i < 64 / w → f i < 2 ^ w) → (i : ℕ) → i < 64 / w → lane w i (register w f) ≡ f i
unfolding register
lane-register w = lane-build w (64 / w)

-- a number is built of its lanes
pub built_of_lanes : (w n x : ℕ) → build w n (λ i. lane w i x) ≡ x % 2 ^ (w * n)
unfolding lane build
built_of_lanes w zero x = sym (ap (λ (k : ℕ). x % 2 ^ k) (mul-zero w) ∙ mod-one x)
built_of_lanes w (suc n) x =
    ap (λ (y : ℕ). x / 2 ^ (w * n) % 2 ^ w * 2 ^ (w * n) + y) (built_of_lanes w n x)
    ∙ sym (ap (λ (k : ℕ). x % 2 ^ k) (mul-suc w n ∙ add_comm (w * n) w) ∙ mod-pow-add x w (w * n))

-- a lane within the low m bits is a lane of these; a lane that stands above a number is 0
pub lane-mod : (w i m x : ℕ) → w + w * i ≤ m → lane w i (x % 2 ^ m) ≡ lane w i x
unfolding lane
lane-mod w i m x l =
    sym (above (x / 2 ^ m) m w (w * i) (x % 2 ^ m) l) ∙ ap (λ (y : ℕ). y / 2 ^ (w * i) % 2 ^ w) (div-add-mod' x (2 ^ m))

pub lane_beyond : (w i x : ℕ) → x < 2 ^ (w * i) → lane w i x ≡ 0
unfolding lane
lane_beyond w i x h = ap (λ (y : ℕ). y % 2 ^ w) (div-eq_of_lt h) ∙ zero-mod (2 ^ w)

-- a number shifted down by c has each lane, shifted down by c, in the low w - c bits of that lane
pub lane_down : (w c i x : ℕ) → c ≤ w → lane w i (x / 2 ^ c) % 2 ^ (w - c) ≡ lane w i x / 2 ^ c
unfolding lane
lane_down w c i x l =
    ap (λ (k : ℕ). x / 2 ^ c / 2 ^ (w * i) % 2 ^ k % 2 ^ (w - c)) (omega arith) ∙ mod-mod-pow (x / 2 ^ c / 2 ^ (w * i)) c (w - c)
    ∙ ap (λ (y : ℕ). y % 2 ^ (w - c)) (shr-shr x c (w * i) ∙ ap (λ (k : ℕ). x / 2 ^ k) (add_comm c (w * i)) ∙ sym (shr-shr x (w * i) c))
    ∙ sym (ap (λ (k : ℕ). x / 2 ^ (w * i) % 2 ^ k / 2 ^ c) (omega arith) ∙ field (x / 2 ^ (w * i)) (w - c) c)

-- equal lanes make equal numbers
pub lanes_decide : (w n x y : ℕ) → x < 2 ^ (w * n) → y < 2 ^ (w * n) → ((i : ℕ) → i < n → lane w i x ≡ lane w i y) → x ≡ y
lanes_decide w n x y hx hy h =
    sym (built_of_lanes w n x ∙ mod-eq_of_lt hx) ∙ build_ext w n (λ i. lane w i x) (λ i. lane w i y) h ∙ built_of_lanes w n y ∙ mod-eq_of_lt hy

-- the lanes of half the width of a lane
pub inner : (v j k x : ℕ) → k < 2 → lane v k (lane (v + v) j x) ≡ lane v (j + j + k) x
unfolding lane
inner v j k x h =
    lane-mod v k (v + v) (x / 2 ^ ((v + v) * j)) (omega (arith, mul-le-mul_left {m = k} {n = 1} v (omega arith), mul-one v))
    ∙ ap (λ (y : ℕ). y % 2 ^ v) (shr-shr x ((v + v) * j) (v * k) ∙ ap (λ (n : ℕ). x / 2 ^ n) (simp (add-mul, mul-add)))
