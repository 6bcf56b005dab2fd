-- Texts and their names in BusyBox, in U-Boot and in coreboot.
use Rattle.std.specs.Prelude.{ℕ, List, [], ◌∷◌, codes}

-- in BusyBox: a text, and its names
abbrev pub busybox_rows : List (List ℕ × List (List ℕ))
busybox_rows =
    (codes "CONFIG_A", codes "A" ∷ [])
    ∷ (codes "ENABLE_A", codes "A" ∷ [])
    ∷ (codes "IF_A(x)", codes "A" ∷ [])
    ∷ (codes "IF_NOT_A(x)", codes "A" ∷ codes "NOT_A" ∷ [])
    ∷ (codes "IF_NOTE(x)", codes "NOTE" ∷ [])
    ∷ (codes "xCONFIG_A _IF_A USE_A", [])
    ∷ (codes "CONFIG_A_MODULE", codes "A_MODULE" ∷ [])
    ∷ (codes "CONFIG_A.CONFIG_B", codes "A" ∷ codes "B" ∷ [])
    ∷ (codes "ENABLE_IF_A", codes "IF_A" ∷ [])
    ∷ (codes "CONFIG_XIF_B", codes "XIF_B" ∷ [])
    ∷ (codes "CONFIG_", [])
    ∷ (codes "IF_NOT_", codes "NOT_" ∷ [])
    ∷ []

-- in U-Boot: a target, the text of a source of it, and its names
abbrev pub uboot_rows : List (List ℕ × List ℕ × List (List ℕ))
uboot_rows =
    (codes "spl/x.o", codes "CONFIG_A CONFIG_B_MODULE", codes "A" ∷ codes "B" ∷ [])
    ∷ (codes "x.o", codes "CONFIG_IS_ENABLED(A)", codes "A" ∷ [])
    ∷ (codes "spl/x.o", codes "CONFIG_IS_ENABLED(A)", codes "SPL_A" ∷ [])
    ∷ (codes "vpl/x.o", codes "CONFIG_IS_ENABLED(A)", codes "VPL_A" ∷ [])
    ∷ (codes "tools/x.o", codes "CONFIG_IS_ENABLED(A)", codes "TOOLS_A" ∷ [])
    ∷ (codes "x.o", codes "CONFIG_IS_ENABLED(A_MODULE)", codes "A" ∷ codes "A_MODULE" ∷ [])
    ∷ (codes "spl/x.o", codes "CONFIG_IF_ENABLED_INT(A_MODULE, MODULE)", codes "SPL_A" ∷ codes "SPL_A_MODULE" ∷ codes "SPL" ∷ codes "SPL_MODULE" ∷ [])
    ∷ (codes "spl/x.o", codes "CONFIG_IS_ENABLED( A)", codes "SPL_A" ∷ [])
    ∷ (codes "spl/x.o", codes "CONFIG_IS_ENABLED (A)", codes "SPL_A" ∷ [])
    ∷ (codes "x.o", codes "CONFIG_IS_ENABLED \\\n\t(\r\n A)", codes "A" ∷ [])
    ∷ (codes "tpl/x.o", codes "CONFIG_VAL(A)", codes "TPL_A" ∷ [])
    ∷ (codes "x.o", codes "CONFIG_IF_ENABLED_INT(A, B)", codes "A" ∷ codes "B" ∷ [])
    ∷ (codes "spl/x.o", codes "CONFIG_IF_ENABLED_INT(A , B)", codes "SPL_A" ∷ codes "SPL_B" ∷ [])
    ∷ (codes "spl/x.o", codes "CONFIG_IF_ENABLED_INT(A)B, C", codes "SPL_A" ∷ [])
    ∷ (codes "spl/x.o", codes "IS_ENABLED(CONFIG_A)", codes "A" ∷ [])
    ∷ (codes "spl/x.o", codes "CONFIG_IS_ENABLED(CONFIG_A)", codes "SPL_CONFIG_A" ∷ codes "A" ∷ [])
    ∷ (codes "spl/x.o", codes "CONFIG_VAL(CONFIG_VAL(A))", codes "SPL_CONFIG_VAL" ∷ codes "SPL_A" ∷ [])
    ∷ (codes "x.o", codes "xCONFIG_IS_ENABLED(A) CONFIG_IS_ENABLED;(A) CONFIG_$(SPL_)A", [])
    ∷ []

-- in coreboot: a text, and its names
abbrev pub coreboot_rows : List (List ℕ × List (List ℕ))
coreboot_rows =
    (codes "CONFIG(A)", codes "A" ∷ [])
    ∷ (codes "CONFIG_A CONFIG (B)", codes "A" ∷ codes "B" ∷ [])
    ∷ (codes "if (!CONFIG( A ) && x)", codes "A" ∷ [])
    ∷ (codes "xCONFIG(A) CONFIG;(A) CONFIGS(A)", [])
    ∷ []
